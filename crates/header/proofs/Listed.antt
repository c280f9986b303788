-- The firms that are listed: a place of the row, the codes one behind the other, and that a row made from settings is shaped and blank behind.
-- Assumes nothing.
use Rattle.octets.proofs.Proving.{List, [], ◌*◌, ◌++◌, ◌+◌, ◌-◌, ◌<◌, ◌∙◌, ◌∷◌, ◌≡◌, add-one, ap, append_assoc, append-nil, arith, dec_lt, drop_at, drop-drop, get_or, length, length-append, lt-ltb, map, map-append, min, refl, sym, take, take_all, take_at, take-suc, ℕ}
use Rattle.octets.specs.Bytes.{part, put, zeros, joined}
use Rattle.octets.proofs.Laws.{take-zeros, drop-zeros, take_past, joined-append}
use Rattle.header.specs.Limits.{most_firms, firm_size}
use Rattle.header.specs.Firms.{firm_at}
use Rattle.header.specs.Settings.{Firm, codes_of, listed_firms}

-- a firm before the eighth place is a part of the row
pub firm-part : (row : List ℕ) (k : ℕ) → k < most_firms → firm_at row k ≡ part row (firm_size * k) firm_size
unfolding firm_at
firm-part row k h = rw (lt-ltb k most_firms h)

-- ---- codes

abbrev pub no_firm : Firm
no_firm = record { code = [] }

-- one firm more
codes-more : (firms : List Firm) (k : ℕ) (f : Firm) → k < length firms → get_or firms k no_firm ≡ f → codes_of firms (k + 1) ≡ codes_of firms k ++ f.code
unfolding joined
codes-more firms k f h e =
    ap (codes_of firms) (add-one k)
    ∙ ap (λ (l : List Firm). joined (map (λ (g : Firm). g.code) l)) (take-suc firms k no_firm h)
    ∙ ap joined (map-append (λ (g : Firm). g.code) (take k firms) (get_or firms k no_firm ∷ []))
    ∙ joined-append (map (λ (g : Firm). g.code) (take k firms)) ((get_or firms k no_firm).code ∷ [])
    ∙ ap (λ (l : List ℕ). codes_of firms k ++ l) (append-nil (get_or firms k no_firm).code ∙ ap (λ (g : Firm). g.code) e)

-- the row so far, and one code more in it
row_more : (codes code : List ℕ) (k : ℕ) → length codes ≡ firm_size * k → length code ≡ firm_size → k < most_firms
    → put (codes ++ zeros (firm_size * most_firms - firm_size * k)) (firm_size * k) code ≡ (codes ++ code) ++ zeros (firm_size * most_firms - firm_size * (k + 1))
row_more codes code k long four h =
    let m : ℕ = firm_size * most_firms - firm_size * k in
    rw (take_at codes (zeros m) (firm_size * k) long, four, ← drop-drop firm_size (firm_size * k) (codes ++ zeros m), drop_at codes (zeros m) (firm_size * k) long, drop-zeros firm_size m (omega arith), append_assoc codes code)
    (let left : m - firm_size ≡ firm_size * most_firms - firm_size * (k + 1) = omega arith in ap (λ (n : ℕ). codes ++ (code ++ zeros n)) left)

-- the row after a turn: one firm more stands in it
pub row_next : (firms : List Firm) (k : ℕ) (row last : List ℕ) → k < length firms → k < most_firms
    → row ≡ codes_of firms k ++ zeros (firm_size * most_firms - firm_size * k) → length (codes_of firms k) ≡ firm_size * k
    → last ≡ put row (firm_size * k) (get_or firms k no_firm).code → length (get_or firms k no_firm).code ≡ firm_size
    → (last ≡ codes_of firms (k + 1) ++ zeros (firm_size * most_firms - firm_size * (k + 1))) × (length (codes_of firms (k + 1)) ≡ firm_size * (k + 1))
row_next firms k row last h eight is long put-there four =
    let code = (get_or firms k no_firm).code in
    let more = codes-more firms k (get_or firms k no_firm) h refl in (
      put-there ∙ ap (λ (r : List ℕ). put r (firm_size * k) code) is ∙ row_more (codes_of firms k) code k long four eight
          ∙ ap (λ (codes : List ℕ). codes ++ zeros (firm_size * most_firms - firm_size * (k + 1))) (sym more),
      omega (arith, ap length more, length-append (codes_of firms k) code, long, four),
    )

-- no firm stands past the eighth place
take-eight : (firms : List Firm) (n : ℕ) → length firms ≡ most_firms → take n firms ≡ take (min n most_firms) firms
take-eight firms n eight =
    elim (dec_lt n most_firms) [
      | yes l ↦ let e : n ≡ min n most_firms = omega arith in ap (λ (m : ℕ). take m firms) e
      | no g ↦ let e : most_firms ≡ min n most_firms = omega arith in
          take_all n firms (omega arith) ∙ sym (take_all most_firms firms (omega arith)) ∙ ap (λ (m : ℕ). take m firms) e
    ]

-- the row at the end
pub row-all : (firms : List Firm) (n k : ℕ) → length firms ≡ most_firms → k ≡ min n most_firms → length (codes_of firms k) ≡ firm_size * k
    → codes_of firms k ++ zeros (firm_size * most_firms - firm_size * k) ≡ listed_firms firms n
unfolding listed_firms
row-all firms n k eight e long =
    let m : ℕ = firm_size * most_firms - firm_size * k in
    let whole : length (codes_of firms k) + m ≡ firm_size * most_firms = omega arith in
    let all : codes_of firms n ≡ codes_of firms k = ap (λ (l : List Firm). joined (map (λ (f : Firm). f.code) l)) (take-eight firms n eight ∙ ap (λ (j : ℕ). take j firms) (sym e)) in
    sym (ap (λ (l : List ℕ). take (firm_size * most_firms) (l ++ zeros (firm_size * most_firms))) all
    ∙ ap (λ (j : ℕ). take j (codes_of firms k ++ zeros (firm_size * most_firms))) (sym whole)
    ∙ take_past (codes_of firms k) (zeros (firm_size * most_firms)) m
    ∙ ap (λ (l : List ℕ). codes_of firms k ++ l) (take-zeros m (firm_size * most_firms) (omega arith)))
