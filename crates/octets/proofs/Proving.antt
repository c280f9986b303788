-- What most proofs name, in one place, so that a proof says on one line what it uses of the logic's libraries. Assumes nothing.
pub use mathlib.Core.Path.{◌≡◌, refl, sym, ap, ap₂, ◌∙◌, subst}
pub use mathlib.Core.Bool.{Bool, true, false, not, ◌&&◌, ◌||◌, false≢true, and_assoc, and_comm, and-true, or_assoc, or-false, and-false, or-true}
pub use mathlib.Core.List.Memᴰ.{cases_cons as List·Memᴰ·cases-cons}
pub use mathlib.Core.List.Memᴰ.{head as List·Memᴰ·head}
pub use mathlib.Core.List.Memᴰ.{not-nil as List·Memᴰ·not-nil}
pub use mathlib.Core.List.Memᴰ.{tail as List·Memᴰ·tail}
pub use mathlib.Core.List.{List, [], ◌∷◌, ◌++◌, map, append_assoc, append-nil, map-append}
pub use mathlib.Core.Logic.{◌⊎◌, inl, inr, ⊎_elim, ◌≢◌}
pub use mathlib.Core.Option.{Option, none, some}
pub use Prim.Native.Nat.{ℕ, zero, suc, ◌+◌, ◌-◌, ◌*◌, ◌/◌, ◌%◌, ◌^◌, ◌≤◌, ◌<◌, min}
pub use native.Mathlib.Nat.{add-sub_cancel_left, add-zero, div-lt_iff_lt-mul, le-div_iff_mul-le, le_of_suc-le-suc, le_refl, mod-eq_of_lt, mod-lt, mul-le-mul, not-suc-le-zero, pow-le-pow_right, pow-suc, sub-eq-zero_of_le, sub_self, sub-zero, zero-add, add-sub_of_le, add-suc, div-add-mod'}
pub use native.Mathlib.Numerals.{add-one}
pub use native.Mathlib.Decide.{dec_le, dec_lt, ℕ_discrete}
pub use native.Mathlib.Omega.{arith}
pub use lib.Arith.{lt_of_le-ne, digits_div, digits_mod}
pub use lib.Dec.{T, eqb, leb, leb-zero as leb·zero, lit<, lit≤, ltb}
pub use lib.ListN.{length, take, drop, get_or, replicate, set, length-append, length-drop, length-replicate, length-set, length-take, drop_of_length-le, take-append-drop, replicate-append-replicate, get_or-append as List·get_d-append, get_or-eq_default as List·get_d-eq-default}
pub use lib.Seq.{drop-append-add, drop-append-le, drop_at, drop-cons, drop-drop, drop-set-lt, get_or-append-add, get_or-drop, get_or-take, length-take-le, take-add, take_all, take-append-add, take-append-le, take-append_seam, take_at, take-length, take-nil, take-suc, take-suc-set, take-take, get_or-set_same, set_split, take-set-le}
pub use borrow.Author.Rules.{rules}
pub use borrow.Author.Tests.{eq-eqb, eqb-false, eqb-true, le-leb, le-ltb, leb-false, leb-true, lt-leb, lt-ltb, ltb-false, ltb-true, ne_eqb, not-false, not-true}
pub use Rattle.octets.proofs.Needs.{unasked}
pub use Rattle.octets.proofs.Guards.{guard, or_left, or_right, answered, denied}
