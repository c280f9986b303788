-- Every promise settles its result: two results that a public function's contract allows are equal. Assumes nothing.
use Rattle.std.proofs.Common.{ℕ, Fits, w64}
use Rattle.octets.proofs.Settles.{Settled, SettledLent, SettledBoth, ◌and◌, ◌also◌, settled, lent, lent-first, settled-both}
use Rattle.wire.proofs as wire

pub judge-unique : Settled wire.judge.judge.Reads.Post and Settled wire.judge.is_framed.Reads.Post and Settled wire.judge.bad_inbound.Reads.Post
judge-unique = (λ κs a. settled) also (λ κs a. settled) also (λ κs a. settled)

pub send-unique : SettledBoth wire.body.send.Reads.Post
send-unique κs a = settled-both

pub by-number-unique : Settled wire.by_number.size.Reads.Post and Settled wire.by_number.judge.Reads.Post and SettledBoth wire.by_number.send.Reads.Post
by-number-unique = (λ κs a. settled) also (λ κs a. settled) also (λ κs a. settled-both)

pub messages-unique : Settled wire.messages.Message.size.Reads.Post and Settled wire.messages.first_byte.Reads.Post
    and Settled wire.messages.message_length.Reads.Post
messages-unique = (λ κs a. settled) also (λ κs a. settled) also (λ κs a. settled)

pub letters-unique : Settled wire.letters.is_sell_side.Reads.Post and Settled wire.letters.is_display.Reads.Post
    and Settled wire.letters.is_capacity.Reads.Post and Settled wire.letters.is_cross.Reads.Post
    and Settled wire.letters.is_stock_state.Reads.Post
letters-unique = (λ κs a. settled) also (λ κs a. settled) also (λ κs a. settled) also (λ κs a. settled) also (λ κs a. settled)

pub text-unique : Settled wire.text.is_token_byte.Reads.Post and Settled wire.text.is_shaped.Reads.Post
text-unique = (λ κs a. settled) also (λ κs a. settled)

pub price-unique : Settled wire.price.Price.new.Reads.Post
price-unique κs a = settled

pub places-unique : Settled wire.places.unless_bad.Reads.Post
    and Settled wire.places.bad_stamp.Reads.Post
    and Settled wire.places.bad_limit_price.Reads.Post and Settled wire.places.bad_nonzero.Reads.Post
    and Settled wire.places.bad_blank.Reads.Post and Settled wire.places.bad_token.Reads.Post
    and Settled wire.places.bad_side.Reads.Post and Settled wire.places.bad_sweep.Reads.Post
    and Settled wire.places.bad_liquidity_flag.Reads.Post and Settled wire.places.bad_book_reason.Reads.Post
    and Settled wire.places.bad_system_event.Reads.Post and Settled wire.places.bad_stock_state.Reads.Post
places-unique =
    (λ κs a. settled) also (λ κs a. settled) also (λ κs a. settled) also (λ κs a. settled) also (λ κs a. settled) also (λ κs a. settled) also (λ κs a. settled)
    also (λ κs a. settled) also (λ κs a. settled) also (λ κs a. settled) also (λ κs a. settled) also (λ κs a. settled)

pub shares-unique : Settled wire.shares.Total.less.Reads.Post and Settled wire.shares.Total.grown_by.Reads.Post
    and Settled wire.shares.Total.cut_by.Reads.Post and Settled wire.shares.Removed.minus.Reads.Post
shares-unique = (λ κs a. settled) also (λ κs a. settled) also (λ κs a. settled) also (λ κs a. settled)

-- these answer nothing but for the first: what they leave is settled
pub spelling-unique : Settled wire.spelling.started.Reads.Post and SettledLent wire.spelling.put_letter.Reads.Post
    and SettledLent wire.spelling.put_integer.Reads.Post and SettledLent wire.spelling.put_long.Reads.Post
    and ((N : ℕ) (fits : Fits w64 N) → SettledLent (wire.spelling.put_text.Reads.Post N fits))
spelling-unique =
    (λ κs a. settled) also (λ κs a. lent) also (λ κs a. lent) also (λ κs a. lent) also (λ N fits κs a. lent-first)

-- of every message: what its impl gives is among the arguments
pub read-unique : (T : _) (L : _) (C : _) (body : _) (of : _) (copied : _) (clone : _) → Settled (wire.body.read.Reads.Post T L C body of copied clone)
read-unique T L C body of copied clone κs a = settled

pub legal-unique : (T : _) (L : _) (C : _) (copied : _) (clone : _) → Settled (wire.body.Reading.legal.Reads.Post T L C copied clone)
legal-unique T L C copied clone κs a = settled

pub write-unique : (T : _) (L : _) (C : _) (written : _) (how : _) (body : _) (of : _) (copied : _) (clone : _)
    → SettledBoth (wire.body.write.Reads.Post T L C written how body of copied clone)
write-unique T L C written how body of copied clone κs a = settled-both
