-- A digit put, from the last to the first. Assumes nothing.
use Rattle.octets.proofs.Proving.{◌-◌, ◌∙◌, ◌≡◌, ap, arith, length-set, suc, sym, ℕ}
use Rattle.octets.specs.Bytes.{put, digits}
use Rattle.octets.proofs.Laws.{put-digits, put-none}
use Rattle.octets.proofs.put_number.Goals as goal

pub loop-k-preserved : goal.loop-k-preserved
loop-k-preserved c =
    let a = c.args in
    let l = c.loop-k in
    let e : suc (l.k - 1) ≡ l.k = omega arith in (
      simp length-set l.invariant.0,
      put-digits l.s a.at (l.k - 1) l.rest (omega arith) ∙ ap (λ (n : ℕ). put l.s a.at (digits n l.rest)) e ∙ l.invariant.1,
    )

pub returns : goal.returns
unfolding digits
returns c =
    let a = c.args in
    let l = c.loop-k in
    let e : l.k ≡ 0 = omega arith in
    sym (put-none l.s a.at) ∙ ap (λ (n : ℕ). put l.s a.at (digits n l.rest)) (sym e) ∙ l.invariant.1
