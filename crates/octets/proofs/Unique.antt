-- Every promise settles its result: two results that a public function's contract allows are equal. Assumes nothing.
use Rattle.std.proofs.Common.{ℕ, Fits, w64}
use Rattle.octets.proofs.Settles.{Settled, SettledLent, ◌and◌, ◌also◌, settled, one-result, lent, lent-first}
use Rattle.octets.proofs as octets

pub values-unique : Settled octets.number_at.Reads.Post and Settled octets.be64.Reads.Post and Settled octets.be32.Reads.Post
    and Settled octets.be16.Reads.Post and Settled octets.byte_at.Reads.Post and Settled octets.are_all.Reads.Post and Settled octets.are_zero.Reads.Post and Settled octets.same_at.Reads.Post
    and SettledLent octets.put_number.Reads.Post and SettledLent octets.put_be64.Reads.Post and SettledLent octets.put_be32.Reads.Post
    and SettledLent octets.put_byte.Reads.Post and SettledLent octets.put_bytes.Reads.Post
    and ((N : ℕ) (fits : Fits w64 N) → Settled (octets.bytes_at.Reads.Post N fits))
    and ((N : ℕ) (fits : Fits w64 N) → SettledLent (octets.put_array.Reads.Post N fits))
values-unique = (λ κs a z z' e e' p q. one-result p.0 q.0) also (λ κs a. settled) also (λ κs a. settled) also (λ κs a. settled) also (λ κs a. settled)
    also (λ κs a. settled) also (λ κs a. settled) also (λ κs a. settled) also (λ κs a. lent) also (λ κs a. lent)
    also (λ κs a. lent) also (λ κs a. lent) also (λ κs a. lent) also (λ N fits κs a. settled) also (λ N fits κs a. lent-first)

pub bits-unique : Settled octets.bits.bit_of.Reads.Post and Settled octets.bits.with_bit.Reads.Post and Settled octets.bits.none_from.Reads.Post
bits-unique = (λ κs a. settled) also (λ κs a. settled) also (λ κs a. settled)
