-- What an answer with a value or none says of the test that it was asked, where it is the value if the test holds. Assumes nothing.
use Rattle.octets.proofs.Proving.{Bool, ◌≡◌, false, refl, true}
use Rattle.std.specs.Prelude.{None, Some, is_some}
use Rattle.std.specs.Bool.{then_some}

pub none-told : {T : Type 0} (b : Bool) (x : T) → None ≡ then_some b x → b ≡ false
none-told false x e = refl
none-told true x e = cc

pub some-told : {T : Type 0} (b : Bool) (x : T) {y : T} → Some y ≡ then_some b x → (b ≡ true) × (y ≡ x)
some-told false x e = (cc, cc)
some-told true x e = (refl, cc)

pub whether-told : {T : Type 0} (b : Bool) (x : T) → is_some (then_some b x) ≡ b
whether-told false x = refl
whether-told true x = refl
