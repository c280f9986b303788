-- The settings that the programs play tapes with (Worked numbers: '800 records, threshold 1,000,000, firm ABCD').
use Rattle.std.specs.Prelude.{replicate}
use Rattle.octets.specs.Choice.{text}
use Rattle.wire.specs.Shares.{total}
use Rattle.header.specs.declared.settings.Settings.{Settings}

unfoldable pub desk_settings : Settings
desk_settings = record { threshold = total 1_000_000; firms = replicate 8 (record { code = text "ABCD" }); count = 1 }
