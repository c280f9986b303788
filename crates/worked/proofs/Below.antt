-- Everything that the crates below define, open at once, for proofs by computation. Assumes nothing.
use Rattle.octets.proofs.Opened.{opened as octets-opened}
use Rattle.bitrow.proofs.Opened.{opened as bitrow-opened}
use Rattle.answers.proofs.Opened.{opened as answers-opened}
use Rattle.wire.proofs.Opened.{opened as wire-opened}
use Rattle.outbox.proofs.Opened.{opened as outbox-opened}
use Rattle.inbound.proofs.Opened.{opened as inbound-opened}
use Rattle.outbound.proofs.Opened.{opened as outbound-opened}
use Rattle.orders.proofs.Opened.{opened as orders-opened}
use Rattle.header.proofs.Opened.{opened as header-opened}
use Rattle.stocks.proofs.Opened.{opened as stocks-opened}
use Rattle.table.proofs.Opened.{opened as table-opened}
use Rattle.convert.proofs.Opened.{opened as convert-opened}
use Rattle.tape.proofs.Opened.{opened as tape-opened}
use Rattle.host.proofs.Opened.{opened as host-opened}
use Rattle.rules.proofs.Opened.{opened as rules-opened}
use Rattle.risk.proofs.Opened.{opened as risk-opened}
use Rattle.market.proofs.Opened.{opened as market-opened}
use Rattle.notices.specs.Notices.{stated_order, accepted_notice, replaced_notice, canceled_notice, self_match_notice, executed_notice, rejected_notice, priority_notice, modified_notice, notice_bytes, message, sent}
use Rattle.tape.specs.Entries.{names_order}

unfoldable pub below : Unit {0}
unfolding octets-opened bitrow-opened answers-opened wire-opened outbox-opened inbound-opened outbound-opened orders-opened header-opened stocks-opened table-opened convert-opened tape-opened host-opened rules-opened risk-opened market-opened stated_order accepted_notice replaced_notice canceled_notice self_match_notice executed_notice rejected_notice priority_notice modified_notice notice_bytes message sent names_order
below = tt
