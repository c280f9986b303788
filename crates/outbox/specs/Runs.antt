-- How a message is written into a ring: in two unbroken runs, one up to the ring's end and one from its start.
use Rattle.std.specs.Prelude.{ℕ, ◌-◌, List, length, take, drop}
use Rattle.octets.specs.Bytes.{put}

-- the message from `place` on; what reaches past the end goes to the start
unfoldable pub in_two_runs : List ℕ → ℕ → List ℕ → List ℕ
in_two_runs ring place message =
    let to_end = length ring - place in put (put ring place (take to_end message)) 0 (drop to_end message)
