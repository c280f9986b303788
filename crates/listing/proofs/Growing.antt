-- A line that grows at its end: what it says is what was said, one behind the other. Assumes nothing.
use Rattle.octets.proofs.Proving.{List, ◌++◌, ◌+◌, ◌∙◌, ◌≡◌, ◌≤◌, ap, append_assoc, arith, length, length-append, refl, take, ℕ}
use Rattle.octets.specs.Bytes.{put}
use Rattle.octets.proofs.Laws.{take_put, length-put}
use Rattle.listing.specs.Lines.{Shown, width, Fits, Adds, Says, Shows}

-- words put behind what is there are added to it
pub put-adds : (before after : Shown) (words : List ℕ) → Fits before (length words) → after.bytes ≡ put before.bytes before.len words
    → after.len ≡ before.len + length words → Adds before words after
put-adds before after words (room, wide) e l =
    let fits : before.len + length words ≤ length before.bytes = omega arith in
    record {
      spelled = ap (λ (n : ℕ). take n after.bytes) l ∙ ap (take (before.len + length words)) e ∙ take_put before.bytes before.len words fits;
      longer = l;
      wide = ap length e ∙ length-put before.bytes before.len words fits ∙ wide;
    }

pub adds-two : {a b c : Shown} {v w : List ℕ} → Adds a v b → Adds b w c → Adds a (v ++ w) c
adds-two {a} {b} {c} {v} {w} p q =
    record {
      spelled = q.spelled ∙ ap (λ (t : List ℕ). t ++ w) p.spelled ∙ simp append_assoc;
      longer = omega (arith, p.longer, q.longer, length-append v w);
      wide = q.wide;
    }

pub says_on : {a b : Shown} {t w : List ℕ} → Says a t → Adds a w b → Says b (t ++ w)
says_on {a} {b} {t} {w} s p =
    record {
      spelled = p.spelled ∙ ap (λ (l : List ℕ). l ++ w) s.spelled;
      long = omega (arith, p.longer, s.long, length-append t w);
      wide = p.wide;
    }

pub shown : {a : Shown} {t u : List ℕ} → Says a t → a.len ≤ width → t ≡ u → Shows a u
shown s h e = record { spelled = s.spelled ∙ e; within = omega (arith, s.wide) }
