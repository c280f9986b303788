-- An input that comes in pieces: what is held of it, the piece at the front of that, and the piece behind it.
use Rattle.std.specs.Prelude.{ℕ, ◌+◌, ◌-◌, ◌^◌, ◌≤◌, ◌≡◌, Bool, true, false, List, [], length, take, get_or, leb, ltb, eqb}
use Rattle.octets.specs.Bytes.{part}
use Rattle.octets.specs.Choice.{pick}
use Rattle.wire.specs.Messages.{length_for, message_length}
use Rattle.purge.specs.Purge.{requests}
use Rattle.tape.specs.Kinds.{entry_length}
pub use Rattle.feed.specs.declared.Feed.{Feed}
pub use Rattle.feed.specs.declared.held.Held.{Held}
pub use Rattle.feed.specs.declared.pieces.Pieces.{Pieces}
pub use Rattle.feed.specs.declared.pieces.Pieces.TheVariants.{Entries, Messages, Requests}

-- ---- what is held

-- none where the marks lie outside the buffer
unfoldable pub unread : List ℕ → Held → List ℕ
unread buffer h = pick (leb h.end (length buffer)) (pick (leb h.at h.end) (part buffer h.at (h.end - h.at)) []) []

-- the marks once n of the held bytes, or all where there are fewer, were handed out
unfoldable pub past : Held → ℕ → Held
past h n = pick (leb h.at h.end) (pick (leb n (h.end - h.at)) (record { at = h.at + n; end = h.end }) (record { at = h.end; end = h.end })) (record { at = h.end; end = h.end })

-- the second begins with the first
abbrev pub Begins : List ℕ → List ℕ → Type 0
Begins before after = take (length before) after ≡ before

-- a read leaves what is held and brings so many bytes behind it, and all that is held then stands at the front
pub record Refills (before : List ℕ) (h : Held) (after : List ℕ) (g : Held) (more : ℕ) : Type 0 where
  pub kept : Begins (unread before h) (unread after g)
  pub grown : length (unread after g) ≡ length (unread before h) + more
  pub front : unread after g ≡ take (length (unread before h) + more) after

-- ---- pieces

-- how long the piece is that begins with a letter; 0 where none does
abbrev pub length_by : Pieces → ℕ → ℕ
length_by Entries letter = entry_length letter
length_by Messages letter = message_length false letter
length_by Requests letter = length_for requests letter

-- how long the whole piece at the front is; 0 where there is none
unfoldable pub whole : Pieces → List ℕ → ℕ
whole p s =
    let size = length_by p (get_or s 0 0) in
    pick (eqb (length s) 0) 0 (pick (ltb (length s) size) 0 size)

-- more of the input may make a whole piece of the bytes
unfoldable pub waits : Pieces → List ℕ → Bool
waits p s = pick (eqb (length s) 0) true (ltb (length s) (length_by p (get_or s 0 0)))

-- ---- the feed

-- nothing read yet, and more pieces to come than any input has
abbrev pub begun : Feed
begun = record { at = 0; len = 0; end = 0; left = 2 ^ 64 - 1 }

abbrev pub held_by : Feed → Held
held_by f = record { at = f.at; end = f.end }

-- the piece that was handed out last
unfoldable pub piece_of : List ℕ → Feed → List ℕ
piece_of buffer f = take f.len (unread buffer (held_by f))

-- what was read behind it
abbrev pub behind : List ℕ → Feed → List ℕ
behind buffer f = unread buffer (past (held_by f) f.len)

-- the piece at the front of what is held; where there is no whole one, all that is held, and nothing follows
unfoldable pub handed_out : Pieces → List ℕ → Held → ℕ → Feed
handed_out p s h left =
    let n = whole p s in
    record { at = h.at; len = pick (eqb n 0) (length s) n; end = h.end; left = pick (eqb n 0) 0 (left - 1) }

-- the piece behind the last one: nothing that was read is lost, and what is handed out is what stands at the front
pub record Next (p : Pieces) (f : Feed) (before after : List ℕ) (r : Feed) : Type 0 where
  pub kept : Begins (behind before f) (unread after (held_by r))
  pub cut : r ≡ handed_out p (unread after (held_by r)) (held_by r) f.left
  pub falls : r.left ≤ f.left - 1

-- the same piece once more
abbrev pub sooner : Feed → Feed
sooner f = record { at = f.at; len = f.len; end = f.end; left = f.left - 1 }

-- no further piece
abbrev pub ended : Feed → Feed
ended f = record { at = f.at; len = f.len; end = f.end; left = 0 }
