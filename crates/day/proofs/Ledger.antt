-- A ledger balances when every order has executed what the messages told under its own token and what the order before it had executed. It
-- is kept by each thing that an entry can do to the records: nothing, a change of a live order, a new one. Assumes nothing.
use Rattle.octets.proofs.Proving.{List, ◌+◌, ◌<◌, ◌∙◌, ◌≡◌, ◌≢◌, ◌≤◌, ap, arith, subst, sym, ℕ, ℕ_discrete}
use Rattle.octets.specs.Bytes.{zeros}
use Rattle.wire.specs.Letters.{live}
use Rattle.wire.specs.Limits.{token_size}
use Rattle.orders.specs.Limits.{most_shares}
use Rattle.laws.proofs.Records.{Face}

-- x has executed what was told, and what the order before it had: there is none, or it is among the n and no longer live
pub data Carries (n : ℕ) (f : ℕ → Face) (told : ℕ) (x : Face) : Type 0 where
  from_nothing : x.previous ≡ zeros token_size → x.executed ≡ told → Carries n f told x
  from_before : (j : ℕ) → j < n → (f j).token ≡ x.previous → ((f j).state ≡ live → ⊥) → x.executed ≡ told + (f j).executed → Carries n f told x

pub record Balanced (n : ℕ) (f : ℕ → Face) (told : List ℕ → ℕ) : Type 0 where
  -- no two records have one token
  pub apart : (i j : ℕ) → i < n → j < n → (f i).token ≡ (f j).token → i ≡ j
  pub carries : (i : ℕ) → i < n → Carries n f (told (f i).token) (f i)
  pub most : (i : ℕ) → i < n → (f i).executed ≤ most_shares
  -- and nothing was told of a token that no record has
  pub untold : (token : List ℕ) → ((i : ℕ) → i < n → (f i).token ≡ token → ⊥) → told token ≡ 0

-- the order before stays as it is, and there may be more behind
carries-on : (n m : ℕ) (f g : ℕ → Face) (told : ℕ) (x : Face) → ((j : ℕ) → j < n → ((f j).state ≡ live → ⊥) → (j < m) × (g j ≡ f j))
    → Carries n f told x → Carries m g told x
carries-on n m f g told x same (from_nothing first all) = from_nothing first all
carries-on n m f g told x same (from_before j l has ended all) =
    let e = (same j l ended).1 in
    from_before j (same j l ended).0 (ap (λ (y : Face). y.token) e ∙ has) (λ alive. ended (ap (λ (y : Face). y.state) (sym e) ∙ alive))
    (all ∙ ap (λ (y : Face). told + y.executed) (sym e))

module _ (n : ℕ) (f g : ℕ → Face) (told : List ℕ → ℕ) (ok : Balanced n f told) where
  -- nothing happens
  pub still : (later : List ℕ → ℕ) → ((i : ℕ) → i < n → g i ≡ f i) → ((token : List ℕ) → later token ≡ told token) → Balanced n g later
  still later same unmoved =
      let token : (i : ℕ) → i < n → (g i).token ≡ (f i).token = λ i l. ap (λ (y : Face). y.token) (same i l) in
      record {
        apart = λ i j a b e. ok.apart i j a b (sym (token i a) ∙ e ∙ token j b);
        carries = λ i l.
            subst (λ (y : Face). Carries n g (later y.token) y) (sym (same i l))
            (subst (λ (k : ℕ). Carries n g k (f i)) (sym (unmoved (f i).token))
            (carries-on n n f g _ (f i) (λ j b _. (b, same j b)) (ok.carries i l)));
        most = λ i l. subst (λ (y : Face). y.executed ≤ most_shares) (sym (same i l)) (ok.most i l);
        untold = λ t none. unmoved t ∙ ok.untold t (λ i l e. none i l (token i l ∙ e));
      }

  -- the live record p has executed k more, and as much is told under its token
  module _ (p k : ℕ) (l : p < n) (alive : (f p).state ≡ live) (others : (i : ℕ) → i < n → i ≢ p → g i ≡ f i)
      (token : (g p).token ≡ (f p).token) (previous : (g p).previous ≡ (f p).previous) (executed : (g p).executed ≡ (f p).executed + k)
      (within : (g p).executed ≤ most_shares)
      (later : List ℕ → ℕ) (Told-more : later (f p).token ≡ told (f p).token + k)
      (unmoved : (t : List ℕ) → ((f p).token ≡ t → ⊥) → later t ≡ told t)
    where
      tokens : (i : ℕ) → i < n → (g i).token ≡ (f i).token
      tokens i a = elim (ℕ_discrete i p) [
        | yes e ↦ rw e token
        | no e ↦ ap (λ (y : Face). y.token) (others i a e)
      ]

      -- what is not live is not p
      ended-stay : (j : ℕ) → j < n → ((f j).state ≡ live → ⊥) → (j < n) × (g j ≡ f j)
      ended-stay j a ended = (a, others j a (λ e. ended (rw e alive)))

      more : (x : Face) → x.previous ≡ (f p).previous → x.executed ≡ (f p).executed + k → Carries n f (told (f p).token) (f p)
          → Carries n f (told (f p).token + k) x
      more x same grown (from_nothing first all) = from_nothing (same ∙ first) (omega (arith, grown, all))
      more x same grown (from_before j a has ended all) = from_before j a (has ∙ sym same) ended (omega (arith, grown, all))

      carried : (i : ℕ) → i < n → Carries n g (later (g i).token) (g i)
      carried i a = elim (ℕ_discrete i p) [
        | yes e ↦
            subst (λ (q : ℕ). Carries n g (later (g q).token) (g q)) (sym e)
            (subst (λ (m : ℕ). Carries n g m (g p)) (sym (ap later token ∙ Told-more))
            (carries-on n n f g _ (g p) ended-stay (more (g p) previous executed (ok.carries p l))))
        | no e ↦
            subst (λ (y : Face). Carries n g (later y.token) y) (sym (others i a e))
            (subst (λ (m : ℕ). Carries n g m (f i)) (sym (unmoved (f i).token (λ same. e (sym (ok.apart p i l a same)))))
            (carries-on n n f g _ (f i) ended-stay (ok.carries i a)))
      ]

      few : (i : ℕ) → i < n → (g i).executed ≤ most_shares
      few i a = elim (ℕ_discrete i p) [
        | yes e ↦ rw e within
        | no e ↦ subst (λ (y : Face). y.executed ≤ most_shares) (sym (others i a e)) (ok.most i a)
      ]

      pub moved : Balanced n g later
      moved =
          record {
            apart = λ i j a b e. ok.apart i j a b (sym (tokens i a) ∙ e ∙ tokens j b);
            carries = carried;
            most = few;
            untold = λ t none.
                unmoved t (λ e. none p l (token ∙ e)) ∙ ok.untold t (λ i a e. none i a (tokens i a ∙ e));
          }

  -- a record more, under a token that none has
  module _ (same : (i : ℕ) → i < n → g i ≡ f i) (new : (i : ℕ) → i < n → (f i).token ≡ (g n).token → ⊥) (carry : Carries n f 0 (g n))
      (within : (g n).executed ≤ most_shares)
    where
      with-new : (j : ℕ) → j < n → ((f j).state ≡ live → ⊥) → (j < n + 1) × (g j ≡ f j)
      with-new j l _ = (omega arith, same j l)

      old-token : (i : ℕ) → i < n → (g i).token ≡ (f i).token
      old-token i l = ap (λ (y : Face). y.token) (same i l)

      apart-still : (i j : ℕ) → i < n + 1 → j < n + 1 → (g i).token ≡ (g j).token → i ≡ j
      apart-still i j a b e = elim (ℕ_discrete i n) [
        | yes x ↦ elim (ℕ_discrete j n) [
          | yes y ↦ omega (arith, x, y)
          | no y ↦ absurd (new j (omega (arith, y)) (sym (old-token j (omega (arith, y))) ∙ sym e ∙ ap (λ (q : ℕ). (g q).token) x))
        ]
        | no x ↦ elim (ℕ_discrete j n) [
          | yes y ↦ absurd (new i (omega (arith, x)) (sym (old-token i (omega (arith, x))) ∙ e ∙ ap (λ (q : ℕ). (g q).token) y))
          | no y ↦ ok.apart i j (omega (arith, x)) (omega (arith, y)) (sym (old-token i (omega (arith, x))) ∙ e ∙ old-token j (omega (arith, y)))
        ]
      ]

      pub grown : Balanced (n + 1) g told
      grown =
          record {
            apart = apart-still;
            carries = λ i l. elim (ℕ_discrete i n) [
              | yes e ↦
                  subst (λ (q : ℕ). Carries (n + 1) g (told (g q).token) (g q)) (sym e)
                  (subst (λ (k : ℕ). Carries (n + 1) g k (g n)) (sym (ok.untold (g n).token new))
                  (carries-on n (n + 1) f g 0 (g n) with-new carry))
              | no e ↦
                  let a : i < n = omega (arith, e) in
                  subst (λ (y : Face). Carries (n + 1) g (told y.token) y) (sym (same i a))
                  (carries-on n (n + 1) f g _ (f i) with-new (ok.carries i a))
            ];
            most = λ i l. elim (ℕ_discrete i n) [
              | yes e ↦ rw e within
              | no e ↦ subst (λ (y : Face). y.executed ≤ most_shares) (sym (same i (omega (arith, e)))) (ok.most i (omega (arith, e)))
            ];
            untold = λ t none. ok.untold t (λ i l e. none i (omega arith) (old-token i l ∙ e));
          }
