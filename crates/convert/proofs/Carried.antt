-- What is carried of an old table: it is as long as a table of as many records, each byte stands where it stood, and no bit is set and nothing is open
-- yet. Assumes nothing.
use Rattle.octets.proofs.Proving.{List, [], ◌*◌, ◌++◌, ◌+◌, ◌-◌, ◌<◌, ◌∙◌, ◌∷◌, ◌≡◌, ◌≤◌, add-one, ap, append_assoc, ap₂, arith, drop, drop_at, drop-drop, length, length-append, length-drop, length-replicate, refl, replicate-append-replicate, suc, sym, take, take_all, take_at, zero, ℕ}
use Rattle.octets.specs.Bytes.{part, put, zeros, digits, number_of, number_from}
use Rattle.octets.proofs.Laws.{part-front, put-put, put_whole}
use Rattle.bitrow.specs.Row.{bytes_for}
use Rattle.header.specs.Limits.{header_size, sum_place}
use Rattle.orders.specs.Limits.{record_size}
use Rattle.table.specs.Table.{records_in, table_size, record_place, record_bytes, bit_bytes, open_sum}
use Rattle.table.proofs.Soundness.{Sized}
use Rattle.table.proofs.Agreeing.{Agree, none-agrees}
use Rattle.convert.specs.Old.{old_records, renewed}
use Rattle.convert.specs.Convert.{carried}
use Rattle.convert.proofs.Former.{OldSized, length-renewed}

-- a length tells how many records there are
pub records-told : (t : List ℕ) (n : ℕ) → length t ≡ table_size n → records_in t ≡ n
unfolding records_in table_size bytes_for
records-told t n long = omega arith

module _ (old : List ℕ) (size : OldSized old) where
  abbrev n : ℕ
  n = old_records old

  abbrev rest : List ℕ
  rest = drop header_size old

  abbrev clear : List ℕ
  clear = zeros (bytes_for n)

  there : header_size ≤ length old
  there = omega (arith, size.long)

  head-long : length (renewed old) ≡ sum_place
  head-long = length-renewed old there

  rest-long : length rest ≡ record_size * n
  rest-long = length-drop header_size old ∙ omega (arith, size.long)

  pub carried-long : length (carried old) ≡ table_size n
  unfolding carried table_size
  carried-long =
      omega (arith, length-append (renewed old) (zeros 4 ++ (rest ++ clear)), length-append (zeros 4) (rest ++ clear), length-append rest clear, head-long, rest-long, length-replicate {A = ℕ} (bytes_for n) 0)

  carried-records : records_in (carried old) ≡ n
  carried-records = records-told (carried old) n carried-long

  pub carried-size : Sized (carried old)
  carried-size =
      record {
        fewest = omega (arith, carried-records, size.fewest);
        most = omega (arith, carried-records, size.most);
        long = carried-long ∙ ap table_size (sym carried-records);
      }

  -- ---- its pieces

  pub carried-head : take sum_place (carried old) ≡ renewed old
  unfolding carried
  carried-head = take_at (renewed old) _ sum_place head-long

  from-sum : drop sum_place (carried old) ≡ zeros 4 ++ (rest ++ clear)
  unfolding carried
  from-sum = drop_at (renewed old) _ sum_place head-long

  from-records : drop header_size (carried old) ≡ rest ++ clear
  from-records = sym (drop-drop 4 sum_place (carried old)) ∙ ap (drop 4) from-sum

  from_bits : drop (header_size + record_size * n) (carried old) ≡ clear
  from_bits =
      sym (drop-drop (record_size * n) header_size (carried old)) ∙ ap (drop (record_size * n)) from-records
      ∙ drop_at rest clear (record_size * n) rest-long

  pub carried-record : (i : ℕ) → i < n → record_bytes (carried old) i ≡ record_bytes old i
  unfolding record_bytes record_place
  carried-record i h =
      ap (take record_size) (sym (drop-drop (record_size * i) header_size (carried old)) ∙ ap (drop (record_size * i)) from-records)
      ∙ part-front rest clear (record_size * i) record_size (omega (arith, rest-long))
      ∙ ap (take record_size) (drop-drop (record_size * i) header_size old)

  -- ---- what is kept of live orders: nothing yet

  carried-sum : open_sum (carried old) ≡ 0
  unfolding open_sum number_of number_from
  carried-sum = ap (λ (l : List ℕ). number_of (take 4 l)) from-sum

  carried-bits : bit_bytes (carried old) ≡ clear
  unfolding bit_bytes record_place
  carried-bits = ap (λ (m : ℕ). drop (header_size + record_size * m) (carried old)) carried-records ∙ from_bits

  pub carried-agrees : Agree (carried old) 0
  carried-agrees = none-agrees (carried old) (bytes_for n) carried-bits carried-sum

-- ---- the same in four runs, one behind the other, over a buffer of that length

-- a run that is put right behind those before it
run : (xs u v ys zs : List ℕ) (at : ℕ) → u ≡ put xs 0 ys → v ≡ put u at zs → length ys ≡ at → at + length zs ≤ length xs → v ≡ put xs 0 (ys ++ zs)
run xs u v ys zs at before now long fits =
    let behind : at ≡ 0 + length ys = omega arith in
    now ∙ ap₂ (λ (l : List ℕ) (k : ℕ). put l k zs) before behind ∙ put-put xs 0 ys zs (omega arith)

-- zeros are how nothing is spelled
digits-none : (n : ℕ) → digits n 0 ≡ zeros n
unfolding digits
digits-none zero = refl
digits-none (suc n) = ap (λ (l : List ℕ). l ++ (0 ∷ [])) (digits-none n) ∙ replicate-append-replicate n 1 0 ∙ ap zeros (add-one n)

module _ (old t : List ℕ) (there : header_size ≤ length old) (room : length t ≡ length old + bytes_for (old_records old)) where
  abbrev records : List ℕ
  records = drop header_size old

  abbrev bits : List ℕ
  bits = zeros (bytes_for (old_records old))

  abbrev head : List ℕ
  head = renewed old ++ zeros 4

  bits-long : length bits ≡ bytes_for (old_records old)
  bits-long = length-replicate (bytes_for (old_records old)) 0

  head-size : length head ≡ header_size
  head-size = omega (arith, length-append (renewed old) (zeros 4), length-renewed old there)

  front-size : length (head ++ records) ≡ length old
  front-size = omega (arith, length-append head records, head-size, length-drop header_size old)

  pub carried-runs : (a b d e : List ℕ) → a ≡ put t 0 (renewed old) → b ≡ put a sum_place (digits 4 0)
      → d ≡ put b header_size (part old header_size (length old - header_size)) → e ≡ put d (length old) (digits (length t - length old) 0) → e ≡ carried old
  unfolding carried
  carried-runs a b d e first second third fourth =
      let left : length t - length old ≡ bytes_for (old_records old) = omega arith in
      let all : part old header_size (length old - header_size) ≡ records = take_all (length old - header_size) records (omega (arith, length-drop header_size old)) in
      let one = run t a b (renewed old) (zeros 4) sum_place first (second ∙ ap (λ (l : List ℕ). put a sum_place l) (digits-none 4)) (length-renewed old there) (omega arith) in
      let two = run t b d head records header_size one (third ∙ ap (λ (l : List ℕ). put b header_size l) all) head-size (omega (arith, length-drop header_size old)) in
      run t d e (head ++ records) bits (length old) two (fourth ∙ ap (λ (l : List ℕ). put d (length old) l) (digits-none (length t - length old) ∙ ap zeros left)) front-size (omega (arith, bits-long))
      ∙ put_whole t ((head ++ records) ++ bits) (omega (arith, length-append (head ++ records) bits, front-size, bits-long))
      ∙ append_assoc head records bits ∙ append_assoc (renewed old) (zeros 4) (records ++ bits)
