-- What is read of 80 bytes is whole: its numbers fit their widths, and its texts have them. Assumes nothing.
use Rattle.octets.proofs.Proving.{List, ◌≡◌, arith, length, ℕ}
use Rattle.octets.proofs.Laws.{length_part, number_bound}
use Rattle.wire.specs.Legal.{Bytes}
use Rattle.orders.specs.Limits.{record_size}
use Rattle.orders.specs.Order.{order_of}
use Rattle.orders.specs.Whole.{WholeOrder}

module _ (s : List ℕ) (bytes : Bytes s) (long : length s ≡ record_size) where
  pub read_whole : WholeOrder (order_of s)
  unfolding order_of
  read_whole =
      record {
        state = number_bound s bytes 0 1 (omega arith);
        token = length_part s 1 14 (omega arith);
        side = number_bound s bytes 15 1 (omega arith);
        shares = record {
          liable = number_bound s bytes 16 4 (omega arith);
          executed = number_bound s bytes 20 4 (omega arith);
          matched = number_bound s bytes 24 4 (omega arith);
        };
        flags = number_bound s bytes 64 1 (omega arith);
        details = record {
          kept = record {
            stock = length_part s 28 8 (omega arith);
            firm = length_part s 44 4 (omega arith);
            capacity = number_bound s bytes 49 1 (omega arith);
            cross = number_bound s bytes 55 1 (omega arith);
          };
          terms = record {
            price = number_bound s bytes 36 4 (omega arith);
            time = number_bound s bytes 40 4 (omega arith);
            display = number_bound s bytes 48 1 (omega arith);
            sweep = number_bound s bytes 50 1 (omega arith);
            minimum = number_bound s bytes 51 4 (omega arith);
          };
          reference = number_bound s bytes 56 8 (omega arith);
          previous = length_part s 65 14 (omega arith);
          spare = number_bound s bytes 79 1 (omega arith);
        };
      }
