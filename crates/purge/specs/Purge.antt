-- The three messages that the purge port takes (Ask 5; document 000, 2.1 to 2.3), a table each like the sixteen, and each as a value. Of a
-- message that has its length and its type two things are judged: the account is blank, and there is no appendage. The place of either is its
-- field's first byte.
use Rattle.std.specs.Prelude.{ℕ, List, [], ◌∷◌}
use Prim.Native.Char.{code}
use Rattle.wire.specs.Layout.{Layout, whole_at, text_at, blank_at, range_at, Values, ◌&◌, FromFields, reading, spell}
pub use Rattle.purge.specs.declared.mass_cancel.MassCancel.{MassCancel}
pub use Rattle.purge.specs.declared.order_entry.OrderEntry.{OrderEntry}

-- ---- Mass Cancel Request (Ask 5; document 000, 2.1)

abbrev pub mass_cancel : Layout
mass_cancel = record {
  code = code "M";
  size = 25;
  fields =
      whole_at 1 4  -- User Reference Number
      ∷ text_at 5 4  -- Firm
      ∷ blank_at 9 6  -- Account
      ∷ text_at 15 8  -- Symbol
      ∷ range_at 23 2 0 0  -- Appendage Length
      ∷ [];
}

abbrev pub mass_cancel_made : FromFields mass_cancel.fields MassCancel
mass_cancel_made reference firm account symbol appendage = record {
  user_reference = reference;
  firm = firm;
  account = account;
  symbol = symbol;
  appendage_length = appendage;
}

unfoldable pub mass_cancel_of : List ℕ → MassCancel
mass_cancel_of s = reading mass_cancel.fields s mass_cancel_made

abbrev pub mass_cancel_values : MassCancel → Values mass_cancel.fields
mass_cancel_values m = m.user_reference & m.firm & m.account & m.symbol & m.appendage_length & tt

unfoldable pub mass_cancel_bytes : MassCancel → List ℕ
mass_cancel_bytes m = spell mass_cancel (mass_cancel_values m)

-- ---- Disable and Enable Order Entry Request (Ask 5; document 000, 2.2 and 2.3): one table, and a letter each

abbrev pub order_entry : ℕ → Layout
order_entry letter = record {
  code = letter;
  size = 15;
  fields =
      whole_at 1 4  -- User Reference Number
      ∷ text_at 5 4  -- Firm
      ∷ blank_at 9 6  -- Account
      ∷ [];
}

abbrev pub disable : Layout
disable = order_entry (code "D")

abbrev pub enable : Layout
enable = order_entry (code "E")

abbrev pub order_entry_made : {letter : ℕ} → FromFields disable.fields (OrderEntry letter)
order_entry_made reference firm account = record { user_reference = reference; firm = firm; account = account }

unfoldable pub order_entry_of : {letter : ℕ} → List ℕ → OrderEntry letter
order_entry_of s = reading disable.fields s order_entry_made

abbrev pub order_entry_values : {letter : ℕ} → OrderEntry letter → Values disable.fields
order_entry_values m = m.user_reference & m.firm & m.account & tt

unfoldable pub order_entry_bytes : (letter : ℕ) → OrderEntry letter → List ℕ
order_entry_bytes letter m = spell (order_entry letter) (order_entry_values m)

-- ---- the three as one list

abbrev pub requests : List Layout
requests = mass_cancel ∷ disable ∷ enable ∷ []
