-- Share numbers. A total counts from the start of the chain: liable, executed, self-matched, an intended size, the Shares of O, U and M.
-- Removed shares are the step between two totals: a decrement, an execution, what is open. No definition below adds or compares across the
-- two kinds but these.
use Rattle.std.specs.Prelude.{ℕ, ◌+◌, ◌-◌, Bool, ltb, eqb}
pub use Rattle.wire.specs.declared.shares.Total.{Total}
pub use Rattle.wire.specs.declared.shares.Removed.{Removed}

abbrev pub total : ℕ → Total
total n = record { 0 = n }

abbrev pub removed : ℕ → Removed
removed n = record { 0 = n }

-- ---- total and total

infix 50 ◌is_below◌
abbrev pub ◌is_below◌ : Total → Total → Bool
a is_below b = ltb a.0 b.0

infix 50 ◌equals◌
abbrev pub ◌equals◌ : Total → Total → Bool
a equals b = eqb a.0 b.0

infixl 60 ◌together◌
abbrev pub ◌together◌ : Total → Total → Total
a together b = total (a.0 + b.0)

infixl 60 ◌less◌
abbrev pub ◌less◌ : Total → Total → Removed
a less b = removed (a.0 - b.0)

-- ---- total and removed

infixl 60 ◌grown_by◌
abbrev pub ◌grown_by◌ : Total → Removed → Total
a grown_by d = total (a.0 + d.0)

infixl 60 ◌cut_by◌
abbrev pub ◌cut_by◌ : Total → Removed → Total
a cut_by d = total (a.0 - d.0)

-- ---- removed and removed

infix 50 ◌exceeds◌
abbrev pub ◌exceeds◌ : Removed → Removed → Bool
a exceeds b = ltb b.0 a.0

-- what goes from the one down to the other; nothing where that is not below
infixl 60 ◌minus◌
abbrev pub ◌minus◌ : Removed → Removed → Removed
a minus b = removed (a.0 - b.0)
