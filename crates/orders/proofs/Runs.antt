-- The four runs of a record, one behind the other, are the order's bytes. Assumes nothing.
use Rattle.octets.proofs.Proving.{List, [], ◌++◌, ◌∙◌, ◌≡◌, ap, append-nil, ℕ}
use Rattle.wire.specs.Layout.{both_values}
use Rattle.wire.proofs.Puts.{spelled-behind}
use Rattle.orders.specs.Order.{Order, order_bytes}
use Rattle.orders.specs.Runs.{opening_fields, opening_values, opening, traded_fields, traded_values, traded, letter_fields, letter_values, letters, ending_fields, ending_values, ending}

pub order-runs : (o : Order) → opening o ++ (traded o.details ++ (letters o.details ++ (ending o.flags o.details ++ []))) ≡ order_bytes o
unfolding order_bytes opening traded letters ending
order-runs o =
    let d = o.details in
    let end = ending_values o.flags d in
    let most = both_values letter_fields ending_fields (letter_values d) end in
    ap (λ (l : List ℕ). opening o ++ (traded d ++ (letters d ++ l))) (append-nil (ending o.flags d))
    ∙ ap (λ (l : List ℕ). opening o ++ (traded d ++ l)) (spelled-behind letter_fields ending_fields (letter_values d) end)
    ∙ ap (λ (l : List ℕ). opening o ++ l) (spelled-behind traded_fields (letter_fields ++ ending_fields) (traded_values d) most)
    ∙ spelled-behind opening_fields (traded_fields ++ (letter_fields ++ ending_fields)) (opening_values o) (both_values traded_fields (letter_fields ++ ending_fields) (traded_values d) most)
