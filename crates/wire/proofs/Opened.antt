-- Everything that specs/ defines, open at once, for proofs by computation. Assumes nothing.
use Rattle.wire.specs.Text.{capital, small, digit, token_byte, capitals_then_spaces, shaped}
use Rattle.wire.specs.Price.{good_price, priced_of}
use Rattle.wire.specs.Layout.{bad_token_byte, bad_place, first_bad_place, no_bad_place, layout_for, spell, unbroken, well_laid}
use Rattle.wire.specs.Messages.{length_for, read_answer, legal_or_zeros, in_eighty, write_answer, buffer_after}
use Rattle.wire.specs.Legal.{Obeys, BadByte}

unfoldable pub opened : Unit {0}
unfolding capital small digit token_byte capitals_then_spaces shaped good_price priced_of bad_token_byte bad_place first_bad_place no_bad_place layout_for spell unbroken well_laid length_for read_answer legal_or_zeros in_eighty write_answer buffer_after Obeys BadByte
opened = tt
