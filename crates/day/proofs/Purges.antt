-- A w that is offered until it is ignored: each done one leaves one order fewer, so it ends, and then none is left. Assumes nothing.
use Rattle.octets.proofs.Proving.{List, [], ◌<◌, ◌∙◌, ◌∷◌, ◌≡◌, ap, arith, refl, suc, sym, true, zero, ℕ}
use Rattle.octets.proofs.Counted.{count_none}
use Rattle.answers.specs.Answer.{is_done}
use Rattle.answers.specs.Answer.{Answer}
use Rattle.answers.specs.Answer.{Done}
use Rattle.header.specs.Firms.{is_listed}
use Rattle.header.specs.declared.Header.{Header}
use Rattle.orders.specs.Wanted.{is_wanted}
use Rattle.table.specs.Table.{header, order_at}
use Rattle.table.proofs.Soundness.{of-sound}
use Rattle.tape.specs.Entries.{stamp_of, purge_of}
use Rattle.tape.specs.declared.entry.Purge.{Purge}
use Rattle.rules.specs.Plan.{answer_of, plan_of, refused, changing}
use Rattle.rules.specs.Replace.{canceled_whole}
use Rattle.rules.specs.Types.{Decision}
use Rattle.risk.specs.Purge.{wanted_by}
use Rattle.host.specs.Step.{Books, World, header_after, books_after, decide, comes_to}
use Rattle.laws.specs.Ready.{Ready}
use Rattle.laws.specs.Purges.{orders_for}
use Rattle.laws.proofs.Sounds.{keeps}
use Rattle.laws.proofs.Records.{left-header}
use Rattle.laws.proofs.Purged.{comes-ignored, comes-canceled, fewer}
use Rattle.day.specs.Day.{Action, books_with, unlimited, run}
use Rattle.day.specs.Purged.{and_once_more, done_then_ignored, GoodPurge, its_offers, PurgedOut}
use Rattle.day.proofs.Plays.{play-sound}
use Rattle.day.proofs.Tokens.{left_is_lem}
use Rattle.day.proofs.Day.{streams}

module _ (s : List ℕ) where
  abbrev e : Purge
  e = purge_of s

  -- what is known of a w that is done
  module _ (b : Books) (good : GoodPurge b s) (some : 0 < orders_for e b.table) where
    comes-done : is_done (answer_of (comes_to b s)) ≡ true
    unfolding canceled_whole changing is_done
    comes-done = ap (λ (d : Decision). is_done (answer_of d)) (comes-canceled b s good.table good.legal good.is-w good.in-time good.listed some)

    abbrev next : Books
    next = books_with b s (plan_of (comes_to b s))

    header_is : header next.table ≡ header_after (header b.table) (stamp_of s) (plan_of (decide b s))
    unfolding books_after
    header_is = ap header (sym (left_is_lem b s good.table comes-done)) ∙ left-header b s good.table comes-done

    -- the next one is good, too: its stamp is the last one, and the firms are what they were
    still-good : GoodPurge next s
    unfolding books_after header_after is_listed
    still-good =
        record {
          table = keeps b s good.table comes-done;
          is-w = good.is-w;
          legal = good.legal;
          in-time = omega (arith, ap (λ (h : Header). h.last) header_is);
          listed = ap (λ (h : Header). is_listed h e.firm) header_is ∙ good.listed;
        }

    one_fewer : orders_for e b.table ≡ suc (orders_for e next.table)
    unfolding books_after
    one_fewer =
        fewer b s good.table good.legal good.is-w comes-done
        ∙ ap (λ (t : List ℕ). suc (orders_for e t)) (left_is_lem b s good.table comes-done)

  -- as many are done as there are orders, one is ignored, and no order is left
  offers : (n : ℕ) (b : Books) → GoodPurge b s → orders_for e b.table ≡ n
      → ((unlimited b (and_once_more n s)).answers ≡ done_then_ignored n) × (orders_for e (unlimited b (and_once_more n s)).books.table ≡ 0)
  unfolding unlimited and_once_more done_then_ignored canceled_whole changing refused is_done
  offers zero b good none =
      let comes = comes-ignored b s good.table good.legal good.is-w good.in-time good.listed none in
      rw comes (refl, none)
  offers (suc n) b good some =
      let more : 0 < orders_for e b.table = omega (arith, some) in
      let comes = ap (λ (d : Decision). answer_of d) (comes-canceled b s good.table good.legal good.is-w good.in-time good.listed more) in
      let rest = offers n (next b good more) (still-good b good more) (omega (arith, some, one_fewer b good more)) in
      rw (comes, comes) (ap (λ (rest : List Answer). Done ∷ rest) rest.0, rest.1)

  module _ (b : Books) (good : GoodPurge b s) where
    abbrev ss : List (List ℕ)
    ss = its_offers b s

    pub purged-out : PurgedOut b s (unlimited b ss).answers (unlimited b ss).books
    unfolding orders_for
    purged-out =
        let all = offers (orders_for e b.table) b good refl in
        let ok = of-sound _ (play-sound ss b good.table) in
        record {
          ends = all.0;
          none_left = λ i l. count_none (λ k. is_wanted (wanted_by e) (order_at (unlimited b ss).books.table k)) _ all.1 i (omega (arith, l, ok.used));
        }

  -- so does every schedule that gets through them, from any world in which nothing is wrong and nothing is held
  pub purged-through : (w : World) → Ready w → w.marks.held ≡ 0 → GoodPurge w.books s → (todo : List Action)
      → (run w (its_offers w.books s) todo).left ≡ []
      → PurgedOut w.books s (run w (its_offers w.books s) todo).answers (run w (its_offers w.books s) todo).world.books
  purged-through w ready empty good todo through =
      let same = streams w (its_offers w.books s) todo ready empty through in
      rw (same.answers, same.books) (purged-out w.books good)
