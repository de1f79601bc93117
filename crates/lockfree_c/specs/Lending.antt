-- The state in which a handle ends that lends what lies behind it.
use Rattle.std.specs.Borrow.{Lends, MutBor, Fml}
use Rattle.lockfree_c.specs.contracts.handle.Handle.{the_row}
use Rattle.lockfree_c.specs.contracts.held.Held.{the_row as held_row}
use Rattle.lockfree_c.specs.declared.handle.Handle.{Handle}
use Rattle.lockfree_c.specs.declared.held.Held.{Held}

-- the same handle, with this behind it
abbrev pub with_held : Handle → Held → Handle
with_held h held = record { at = h.at; alloc = h.alloc; full = h.full; held = held }

abbrev pub LendsHeld : MutBor Handle → MutBor Held → Fml
LendsHeld h r = Lends the_row held_row h r (with_held h.now)
