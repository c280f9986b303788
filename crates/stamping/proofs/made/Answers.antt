-- There is no room, or the entry is put, of either port's message. Assumes nothing.
use Rattle.octets.proofs.Proving.{Bool, ◌+◌, ◌≤◌, ap, arith, length, sym}
use Rattle.stamping.specs.Stamping.{body_for}
use Rattle.stamping.proofs.Answers.{size_is, no_room_lem, entry-made}
use Rattle.stamping.proofs.Which.{host-long, all-but-type}
use Rattle.stamping.proofs.made.Goals as goal

pub returns-then-entry-entry_length : goal.returns-then-entry-entry_length
returns-then-entry-entry_length c =
    let a = c.args in
    no_room_lem a.purge a.stamp a.message.now a.entry.now c.requires c.first_byte.ensures c.kind_for-kind.ensures
    c.entry_length.ensures c.if-entry-entry_length.true

pub put_purge-requires : goal.put_purge-requires
put_purge-requires c =
    let a = c.args in
    let size = size_is a.purge a.stamp a.message.now a.entry.now c.requires c.first_byte.ensures c.kind_for-kind.ensures
    c.entry_length.ensures in
    let port = c.if-purge.true in
    let fits : 9 + length (body_for a.purge a.message.now) ≤ length a.entry.now = omega (arith, size, c.if-entry-entry_length.false) in
    (rw port at c.requires, rw port at fits)

pub slice_bounds-put_entry-count : goal.slice_bounds-put_entry-count
slice_bounds-put_entry-count c = host-long c.args.message.now (rw c.if-purge.false at c.requires)

pub put_entry-requires : goal.put_entry-requires
put_entry-requires c =
    let a = c.args in
    let size = size_is a.purge a.stamp a.message.now a.entry.now c.requires c.first_byte.ensures c.kind_for-kind.ensures
    c.entry_length.ensures in
    omega (arith, size, c.if-entry-entry_length.false, ap length (all-but-type a.purge a.message.now c.if-purge.false))

pub returns-then-purge : goal.returns-then-purge
returns-then-purge c =
    let a = c.args in
    entry-made a.purge a.stamp a.message.now a.entry.now c.requires c.first_byte.ensures c.kind_for-kind.ensures
    c.entry_length.ensures c.if-entry-entry_length.false (ap (λ (b : Bool). body_for b a.message.now) (sym c.if-purge.true)) c.put_purge.ensures

pub returns-else-purge : goal.returns-else-purge
returns-else-purge c =
    let a = c.args in
    entry-made a.purge a.stamp a.message.now a.entry.now c.requires c.first_byte.ensures c.kind_for-kind.ensures
    c.entry_length.ensures c.if-entry-entry_length.false (all-but-type a.purge a.message.now c.if-purge.false) c.put_entry.ensures

pub slice_bounds-put_entry-start : goal.slice_bounds-put_entry-start
slice_bounds-put_entry-start c = slice_bounds-put_entry-count c
