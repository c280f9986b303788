-- A world in which a step finds nothing wrong (Answer numbers 10, 11 and 14).
use Rattle.std.specs.Prelude.{◌≡◌, true, length}
use Rattle.outbox.specs.Outbox.{ring_good}
use Rattle.table.specs.Table.{sound}
use Rattle.stocks.specs.Stocks.{list_good}
use Rattle.host.specs.Step.{World}

pub record Ready (w : World) : Type 0 where
  pub table : sound w.books.table ≡ true
  pub ring : ring_good (length w.ring) w.marks ≡ true
  pub stocks : list_good w.books.stocks ≡ true
