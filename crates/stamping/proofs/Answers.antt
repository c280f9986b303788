-- What is answered and left, by what was found: of a message that is refused, of one whose entry has no room, and of one whose entry is made.
-- Assumes nothing.
use Rattle.octets.proofs.Proving.{Bool, List, ◌++◌, ◌+◌, ◌<◌, ◌∙◌, ◌∷◌, ◌≡◌, ◌≤◌, ap, arith, false, get_or, le-ltb, length, lt-ltb, refl, sym, zero-add, ℕ}
use Rattle.octets.specs.Bytes.{put, digits}
use Rattle.answers.specs.Answer.{is_done, if_done}
use Rattle.answers.specs.Answer.{Answer}
use Rattle.answers.specs.Answer.{Done, NoRoom}
use Rattle.tape.specs.Kinds.{kind_by, entry_length, layout_of}
use Rattle.stamping.specs.Stamping.{heard, kind_for, body_for, entry_for, stamp_answer, stamp_after}
use Rattle.stamping.proofs.Puts.{front_long}
use Rattle.stamping.proofs.Which.{goes}

module _ (purge : Bool) (stamp : ℕ) (m buffer : List ℕ) where
  pub refused : {answer : Answer} → answer ≡ heard purge m → is_done answer ≡ false
      → (answer ≡ stamp_answer purge stamp m buffer) × (buffer ≡ stamp_after purge stamp m buffer)
  unfolding stamp_after stamp_answer if_done
  refused {answer} e refusal =
      let told : answer ≡ stamp_answer purge stamp m buffer = rw (← e, refusal) in
      (told, rw (← told, refusal))

  entry-long : length (entry_for purge stamp m) ≡ 9 + length (body_for purge m)
  unfolding entry_for
  entry-long = front_long (kind_for purge (get_or m 0 0)) stamp (body_for purge m)

  -- by the type, the kind and the length that the code has found
  module _ (done : heard purge m ≡ Done) {letter kind size : ℕ} (f : letter ≡ get_or m 0 0) (g : kind ≡ kind_for purge letter) (h : size ≡ entry_length kind) where
    found : kind ≡ kind_for purge (get_or m 0 0)
    found = g ∙ ap (kind_for purge) f

    pub size_is : size ≡ 9 + length (body_for purge m)
    unfolding entry_length
    size_is = let w = goes purge m done in h ∙ ap (λ (k : ℕ). (layout_of (kind_by k)).size) found ∙ ap (λ k. (layout_of k).size) w.known ∙ sym w.long

    pub no_room_lem : length buffer < size → (NoRoom ≡ stamp_answer purge stamp m buffer) × (buffer ≡ stamp_after purge stamp m buffer)
    unfolding stamp_after stamp_answer if_done is_done
    no_room_lem short = rw (done, lt-ltb (length buffer) (length (entry_for purge stamp m)) (omega (arith, short, size_is, entry-long))) (refl, refl)

    pub entry-made : size ≤ length buffer → {body exit : List ℕ} → body ≡ body_for purge m → exit ≡ put buffer 0 (kind ∷ (digits 8 stamp ++ body))
        → (Done ≡ stamp_answer purge stamp m buffer) × (exit ≡ stamp_after purge stamp m buffer)
    unfolding entry_for stamp_after stamp_answer if_done is_done
    entry-made room {body} {exit} same e =
        let left : exit ≡ put buffer 0 (entry_for purge stamp m) = rw (← found, ← same) e in
        rw (done, le-ltb (length buffer) (length (entry_for purge stamp m)) (omega (arith, room, size_is, entry-long))) (refl, rw zero-add at left)
