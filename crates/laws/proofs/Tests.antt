-- What a client rule's tests tell where they let an entry pass. Assumes nothing.
use Rattle.octets.proofs.Proving.{Bool, ◌<◌, ◌||◌, ◌≡◌, ◌≤◌, arith, eqb-false, false, ltb-false, ltb-true, not, not-false, or_left, or_right, true}
use Rattle.wire.specs.Shares.{total, ◌is_below◌, ◌equals◌}
use Rattle.header.specs.Header.{is_open_day}
use Rattle.header.specs.Limits.{highest_threshold}
use Rattle.orders.specs.Limits.{most_shares}
use Rattle.orders.specs.Counts.{gone}
use Rattle.orders.specs.Order.{is_live, ◌is◌}
use Rattle.orders.specs.declared.flags.Flag.TheVariants.{Late}
use Rattle.rules.specs.Enter.{bad_shares}
use Rattle.rules.specs.Replace.{bad_beside_price, bad_details}
use Rattle.rules.specs.Modify.{side_allowed, modify_ignored}
use Rattle.laws.proofs.Types.{Order, Header, Total, ModifyOrder, ReplaceOrder}

module _ (h : Header) (o : Order) (e : ModifyOrder) (heard : modify_ignored h o e ≡ false) where
  abbrev moment : Bool
  moment = not (is_live o) || not (is_open_day h) || (o is Late) || not (side_allowed o.side e.side)

  pub modify-live : is_live o ≡ true
  unfolding modify_ignored
  modify-live = not-false _ (or_left _ _ (or_left _ _ (or_left _ _ (or_left _ _ (or_left _ _ (or_left _ _ heard))))))

  pub modify-above : (gone o.shares).0 < e.shares.0
  unfolding modify_ignored
  modify-above = ltb-true _ _ (not-false _ (or_right moment _ (or_left _ _ (or_left _ _ heard))))

  pub modify-within : e.shares.0 ≤ o.shares.liable.0
  unfolding modify_ignored
  modify-within = ltb-false _ _ (or_right (moment || not (gone o.shares is_below e.shares)) _ (or_left _ _ heard))

-- shares of O or U that are not bad
pub fair-shares : (h : Header) (s : Total) → h.threshold.0 ≤ highest_threshold → bad_shares h s ≡ false → (0 < s.0) × (s.0 ≤ most_shares)
unfolding bad_shares
fair-shares h s threshold e =
    let some = eqb-false s.0 0 (or_left _ _ e) in
    let below = ltb-true s.0 h.threshold.0 (not-false _ (or_right (s equals total 0) _ e)) in
    (omega (arith, some), omega arith)

-- details of U that are not
module _ (h : Header) (old : Order) (e : ReplaceOrder) (good : bad_details h old e ≡ false) where
  pub good-shares : bad_shares h e.shares ≡ false
  unfolding bad_details bad_beside_price
  good-shares = or_left _ _ (or_left _ _ (or_left _ _ (or_left _ _ good)))

  pub new-open : (gone old.shares).0 < e.shares.0
  unfolding bad_details bad_beside_price
  new-open = ltb-true _ _ (not-false _ (or_right (bad_shares h e.shares) _ (or_left _ _ (or_left _ _ (or_left _ _ good)))))
