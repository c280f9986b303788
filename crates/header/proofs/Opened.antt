-- Everything that specs/ defines, open at once, for proofs by computation. Assumes nothing.
use Rattle.header.specs.Header.{header_of, header_bytes, is_open_day}
use Rattle.header.specs.Firms.{firm_at, is_blank, meant_firm, is_listed, firm_place, firm_blocked, blocked_with, firms_shaped, rest_blank}
use Rattle.header.specs.Sound.{header_sound}
use Rattle.header.specs.Settings.{listed_firms, settings_good, fresh_header}
use Rattle.header.specs.Runs.{moments, standing}

unfoldable pub opened : Unit {0}
unfolding header_of header_bytes is_open_day firm_at is_blank meant_firm is_listed firm_place firm_blocked blocked_with firms_shaped rest_blank header_sound listed_firms settings_good fresh_header moments standing
opened = tt
