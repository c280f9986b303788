-- The answer to a need that asks nothing: a function without a `requires` is called so. Assumes nothing.

-- of what is known at the call and of the callee's lifetimes, nothing is looked at
pub unasked : {C K : Type 0} → C → K → Unit {0}
unasked c κs = tt
