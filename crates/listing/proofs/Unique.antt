-- Every promise settles its result: two results that a public function's contract allows are equal. Of a line its text is settled; nobody is shown
-- the bytes behind it. Assumes nothing.
use Rattle.octets.proofs.Proving.{List, ◌≡◌, take, ℕ}
use Rattle.octets.proofs.Settles.{Settles, Settled, settled, one-result}
use Rattle.listing.specs.Lines.{Shown, Shows}
use Rattle.listing.proofs as listing

-- the text of a line, of any function that gives one
abbrev SettledText : {K : Type 0} {A E : K → Type 0} → ((κs : K) → A κs → Shown → E κs → Type 0) → Type 0
SettledText {K} {A} Promise = (κs : K) (a : A κs) → Settles {X = List ℕ} (Promise κs a) (λ z e. take z.len z.bytes)

one-text : {E : Type 0} {t : List ℕ} → (z z' : Shown) (e e' : E) → Shows z t → Shows z' t → take z.len z.bytes ≡ take z'.len z'.bytes
one-text z z' e e' p q = one-result p.spelled q.spelled

pub line-unique : SettledText listing.lines.line.Reads.Post
line-unique κs a = one-text

pub last-line-unique : SettledText listing.lines.last_line.Reads.Post
last-line-unique κs a = one-text

pub ring-line-unique : SettledText listing.drawing.ring_line.Reads.Post
ring-line-unique κs a = one-text

pub type-shown-unique : Settled listing.lines.type_shown.Reads.Post
type-shown-unique κs a = settled

pub clock-unique : Settled listing.clock.clock.Reads.Post
clock-unique κs a = settled

pub behind-point-unique : Settled listing.price.behind_point.Reads.Post
behind-point-unique κs a = settled
