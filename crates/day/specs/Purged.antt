-- A w that is offered until it is ignored (Ask 5): of any sound table, with unlimited room, and through any outbox that holds nothing.
use Rattle.std.specs.Prelude.{ℕ, zero, suc, ◌≤◌, ◌<◌, ◌≡◌, true, false, List, [], ◌∷◌}
use Rattle.answers.specs.Answer.{Answer}
use Rattle.answers.specs.Answer.{Done, Ignored}
use Rattle.header.specs.Firms.{is_listed}
use Rattle.orders.specs.Wanted.{is_wanted}
use Rattle.table.specs.Table.{header, order_at, sound}
use Rattle.tape.specs.Entries.{entry_answer, stamp_of, purges, purge_of}
use Rattle.risk.specs.Purge.{wanted_by}
use Rattle.host.specs.Step.{Books}
use Rattle.laws.specs.Purges.{orders_for}

-- the same entry n times, and once more
unfoldable pub and_once_more : ℕ → List ℕ → List (List ℕ)
and_once_more zero s = s ∷ []
and_once_more (suc n) s = s ∷ and_once_more n s

-- n times done, and then ignored
unfoldable pub done_then_ignored : ℕ → List Answer
done_then_ignored zero = Ignored ∷ []
done_then_ignored (suc n) = Done ∷ done_then_ignored n

-- a w with which nothing is wrong: legal, not too early, and of a listed firm
pub record GoodPurge (b : Books) (s : List ℕ) : Type 0 where
  pub table : sound b.table ≡ true
  pub is-w : purges s ≡ true
  pub legal : entry_answer s ≡ Done
  pub in-time : (header b.table).last ≤ stamp_of s
  pub listed : is_listed (header b.table) (purge_of s).firm ≡ true

-- it is offered as many times as there are such orders, and once more
abbrev pub its_offers : Books → List ℕ → List (List ℕ)
its_offers b s = and_once_more (orders_for (purge_of s) b.table) s

-- what they come to: each is done but the last, and no live order of that firm and symbol is left that isn't late
pub record PurgedOut (b : Books) (s : List ℕ) (answers : List Answer) (after : Books) : Type 0 where
  pub ends : answers ≡ done_then_ignored (orders_for (purge_of s) b.table)
  pub none_left : (i : ℕ) → i < (header after.table).used → is_wanted (wanted_by (purge_of s)) (order_at after.table i) ≡ false
