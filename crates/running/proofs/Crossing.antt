-- A row of slots and the lease of a table may cross threads, where the values may. So may passes, roots and notes.
use Rattle.std.proofs.Common.{List, [], ◌∷◌, Bool, true, false}
use mir.Raw.{raw}
use base.Fml.{Fml}
use base.Shift.{Keyless}
use denote.RattleType.{RattleType}
use denote.Memory.{lone}
use denote.RawPtr.{Ptr, block_ptr, null_ptr, in_block, ◌+ₚ◌}
use denote.Builtin.{RawPtr, usize}
use denote.Struct.Struct.{exits_of}
use denote.Struct.Owning.{shape, fields, to}
use denote.Param.Send.{IsSend, AllSend, owning_send, struct_send, sendable}
use denote.Param.SendFields.{as_row_send, declared_send}
use denote.Struct.Field.{row_field}
use Rattle.core.specs.Mem.Slots.Ownership.{bytes_of, slot, slots}
use Rattle.core.specs.contracts.slots.Slots as row
use Rattle.core.specs.contracts.slots.Lease as lease
use Rattle.std_alloc.proofs.SendSync.{quiet, lies}
use Rattle.std_heap.specs.contracts.Global as Heap
use Rattle.std_heap.specs.contracts.GlobalAllocator.TheImpl.{ghosts}
use Rattle.std.proofs.Crossing.{frees}
use Rattle.atomic_table.proofs.shared.Seat.TheSendSync.{the_send as seat_send}
use Rattle.running.specs.contracts.kept.PassWith as pass
use Rattle.running.specs.contracts.kept.RootWith as root
use Rattle.running.specs.contracts.passes.Note as note

ps : IsSend RawPtr
ps = search sendable

ns : IsSend usize
ns = search sendable

room_keyless : (R : RattleType) (p : Ptr) → Keyless (denote.RawPtr.room_for (raw (lone R.mir)) p)
room_keyless R (block_ptr b o) = tt
room_keyless R null_ptr = tt

inside : (p : Ptr) (F : Fml) → Keyless F → Keyless (in_block p F)
inside (block_ptr b o) F k = k
inside null_ptr F k = tt

slot_keyless : (R : RattleType) → IsSend R → (f : Bool) (p : Ptr) (x : R.Denot) → Keyless (slot R f p x)
slot_keyless R s true p x = lies R s p x
slot_keyless R s false p x = room_keyless R p

slots_keyless : (R : RattleType) → IsSend R → (p : Ptr) (xs : List R.Denot) (fs : List Bool) → Keyless (slots R p xs fs)
slots_keyless R s p [] fs = tt
slots_keyless R s p (x ∷ xs) [] = tt
slots_keyless R s p (x ∷ xs) (f ∷ fs) = (slot_keyless R s f p x, slots_keyless R s (p +ₚ bytes_of R) xs fs)

pub row_send : (R : RattleType) → IsSend R → IsSend (row.the_row R)
row_send R s = let O = row.the_type R in let all : AllSend (fields O) = (ps, (ns, tt)) in
    owning_send O all (λ d. (tt, inside d.ptr _ (slots_keyless R s d.ptr d.items d.filled))) (λ k. quiet (to O) (exits_of k (fields O)) ((struct_send (shape O) all).leaving k))

pub lease_send : (R : RattleType) → IsSend (lease.the_row R Heap.the_row ghosts)
lease_send R = let O = lease.the_type R Heap.the_row ghosts in let all : AllSend (fields O) = (ps, (ns, (search sendable, tt))) in
    owning_send O all (λ d. frees.frees d.alloc _ d.ptr) (λ k. quiet (to O) (exits_of k (fields O)) ((struct_send (shape O) all).leaving k))

pub pass_send : (T L K : RattleType) → IsSend T → IsSend K → IsSend (pass.the_row T L K)
pass_send T L K t k = declared_send (pass.the_type T L K) (search (sendable, seat_send) depth 30, (as_row_send (row_field K) k, tt))

pub root_send : (T L K : RattleType) → IsSend T → IsSend K → IsSend (root.the_row T L K)
root_send T L K t k = declared_send (root.the_type T L K) (search (sendable, seat_send) depth 30, (as_row_send (row_field K) k, tt))

pub note_send : (T L : RattleType) → IsSend T → IsSend (note.the_row T L)
note_send T L t = declared_send (note.the_type T L) (search (sendable, seat_send) depth 30, tt)
