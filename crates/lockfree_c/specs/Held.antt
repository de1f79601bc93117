-- What holds between calls of what lies behind a handle, and what the calls do to it.
use Rattle.std.specs.Prelude.{◌≡◌, ◌≤◌, ◌+◌, ◌⊎◌, ℕ, List, Result, Ok, Err}
use Rattle.tagged_index.specs.declared.limit.TheConstants.{MIN_CAPACITY, MAX_CAPACITY, MIN_TAG_LIMIT}
use Rattle.tagged_index.specs.declared.word.TheConstants.{MAX_TAG, NULL}
use Rattle.bounded_model.specs.declared.container.TheConstants.{MIN_PASSES, MAX_PASSES}
use Rattle.bounded_model.specs.declared.commands.Command.{Command}
use Rattle.index_list.specs.declared.front.Front.{Front}
use Rattle.queue_machine.specs.Answers as queue_machine
use Rattle.stack_machine.specs.Answers as stack_machine
use Rattle.ms_queue.specs.code.Left as queue_left
use Rattle.ms_queue.specs.Calls as queue
use Rattle.treiber_stack.specs.code.Left as stack_left
use Rattle.ring_table.specs.Core.{shape_for}
use Rattle.ring_queue.specs.code.Leaving as ring_left
use Rattle.ring_queue.specs.Calls as ring
use Rattle.ring_queue.specs.declared.life.limits.TheConstants.{MIN_LAPS, MAX_LAPS}
use Rattle.lockfree_c.specs.Bulk.{Continues, PassCopied, PassFolded, StackPass}
use Rattle.lockfree_c.specs.Codes.{bare}
use Rattle.lockfree_c.specs.Passes.{PassBegan, PassCalled, PassWentOn}
use Rattle.lockfree_c.specs.Queues as queues
use Rattle.lockfree_c.specs.Rings as rings
use Rattle.lockfree_c.specs.Sides.{IsNewSide, IsSide, SideCalled, SideFinished, SideJoined, SideSplit, SideUnjoined, SidesMatch}
use Rattle.lockfree_c.specs.Stacks as stacks
use Rattle.lockfree_c.specs.Stages.{SaysNumber, refusal_at}
use Rattle.lockfree_c.specs.declared.answers.Answer.{Answer}
use Rattle.lockfree_c.specs.declared.answers.TheConstants.{NO_MEMORY, BAD_CAPACITY, OTHER_HANDLE}
use Rattle.lockfree_c.specs.declared.calls.queue.QueueWork.{QueueWork}
use Rattle.lockfree_c.specs.declared.calls.ring.RingWork.{RingWork}
use Rattle.lockfree_c.specs.declared.held.Held.{Held}
use Rattle.lockfree_c.specs.declared.held.Held.TheVariants.{Nothing, Queue, Stack, Ring, Producer, Consumer}
use Rattle.lockfree_c.specs.declared.pass.PassOf.{PassOf}
use Rattle.lockfree_c.specs.declared.side.Side.TheVariants.{Pass}

abbrev pub QueuePass : Type 0
QueuePass = PassOf queues.Queue (queue.Pass ℕ) (queue.AnyOp ℕ) QueueWork

abbrev pub RingPass : Type 0
RingPass = PassOf rings.Ring (ring.Pass ℕ) (ring.AnyOp ℕ) RingWork

-- What holds between calls
abbrev pub IsHeld : Held → Type 0
IsHeld Nothing = Unit {0}
IsHeld (Queue s) = IsSide queues.queue_reading s
IsHeld (Stack s) = IsSide stacks.stack_reading s
IsHeld (Ring s) = IsSide rings.ring_reading s
IsHeld (Producer p) = Unit {0}
IsHeld (Consumer c) = Unit {0}

-- Why it does not make a call that only some containers have
abbrev pub refusal_of : Held → ℕ
refusal_of (Queue (Pass p)) = refusal_at p.stage.under_way
refusal_of (Stack (Pass p)) = refusal_at p.stage.under_way
refusal_of (Ring (Pass p)) = refusal_at p.stage.under_way
refusal_of h = OTHER_HANDLE

-- then nothing changes
abbrev pub Declined : Held → Held → Answer → Type 0
Declined h g a = (a ≡ bare (refusal_of h)) × (g ≡ h)

-- The calls that a pass of each container has

-- what a queue's, a stack's and a ring's pass do; nothing else makes the call
abbrev pub EachDoes : (QueuePass → QueuePass → Answer → Type 0) → (StackPass → StackPass → Answer → Type 0) → (RingPass → RingPass → Answer → Type 0)
    → Held → Held → Answer → Type 0
EachDoes OfQueue OfStack OfRing (Queue s) (Queue t) a = SideCalled OfQueue s t a
EachDoes OfQueue OfStack OfRing (Stack s) (Stack t) a = SideCalled OfStack s t a
EachDoes OfQueue OfStack OfRing (Ring s) (Ring t) a = SideCalled OfRing s t a
EachDoes OfQueue OfStack OfRing Nothing Nothing a = a ≡ bare OTHER_HANDLE
EachDoes OfQueue OfStack OfRing (Producer p) g a = (a ≡ bare OTHER_HANDLE) × (g ≡ Producer p)
EachDoes OfQueue OfStack OfRing (Consumer c) g a = (a ≡ bare OTHER_HANDLE) × (g ≡ Consumer c)
EachDoes OfQueue OfStack OfRing h g a = ⊥

-- with this number of tries
abbrev pub HeldCalled : ℕ → Held → Command ℕ → Held → Answer → Type 0
HeldCalled tries h call g a = EachDoes
    (λ p. PassCalled queues.queue_reading (queues.queue_steps tries) p call)
    (λ p. PassCalled stacks.stack_reading (stacks.stack_steps tries) p call)
    (λ p. PassCalled rings.ring_reading (rings.ring_steps tries) p call) h g a

abbrev pub HeldWentOn : ℕ → Held → Held → Answer → Type 0
HeldWentOn tries h g a = EachDoes
    (PassWentOn queues.queue_reading tries (queues.queue_steps tries))
    (PassWentOn stacks.stack_reading tries (stacks.stack_steps tries))
    (PassWentOn rings.ring_reading tries (rings.ring_steps tries)) h g a

abbrev pub HeldGauged : ℕ → Held → Held → Answer → Type 0
HeldGauged tries h g a = EachDoes
    (λ p. PassBegan queues.queue_reading (queues.Gauged p.container.value tries) p)
    (λ p. PassBegan stacks.stack_reading (stacks.Gauged p.container.value tries) p)
    (λ p. PassBegan rings.ring_reading (rings.Gauged p.container.value tries) p) h g a

-- the number of the call that ended last
abbrev pub HeldNumber : Held → Answer → Type 0
HeldNumber (Queue (Pass p)) a = SaysNumber p.stage a
HeldNumber (Stack (Pass p)) a = SaysNumber p.stage a
HeldNumber (Ring (Pass p)) a = SaysNumber p.stage a
HeldNumber h a = a ≡ bare OTHER_HANDLE

-- The calls that only some containers have

abbrev pub HeldCounted : ℕ → Held → Held → Answer → Type 0
HeldCounted tries (Queue (Pass p)) (Queue (Pass q)) a = PassBegan queues.queue_reading (queues.Counted p.container.value tries) p q a
HeldCounted tries (Queue (Pass p)) g a = ⊥
HeldCounted tries (Ring (Pass p)) (Ring (Pass q)) a = PassBegan rings.ring_reading (rings.Counted p.container.value tries) p q a
HeldCounted tries (Ring (Pass p)) g a = ⊥
HeldCounted tries h g a = Declined h g a

-- what a stack's pass does; nothing else makes the call
abbrev pub StackDoes : (StackPass → StackPass → Answer → Type 0) → Held → Held → Answer → Type 0
StackDoes Does (Stack (Pass p)) (Stack (Pass q)) a = Does p q a
StackDoes Does (Stack (Pass p)) g a = ⊥
StackDoes Does h g a = Declined h g a

abbrev pub HeldFolded : ℕ → Held → Front → Held → Answer → Type 0
HeldFolded tries h front g a = StackDoes (λ p q b. PassFolded tries p front q b) h g a

abbrev pub HeldCopied : ℕ → Held → List ℕ → Held → Answer → Type 0
HeldCopied tries h values g a = StackDoes (λ p q b. PassCopied tries p values q b) h g a

abbrev pub HeldContinues : Held → List ℕ → Type 0
HeldContinues (Stack (Pass p)) values = Continues p values
HeldContinues h values = Unit {0}

-- The calls of a root

abbrev pub AreLimits : ℕ → ℕ → Type 0
AreLimits n t = (MIN_CAPACITY ≤ n) × (n ≤ MAX_CAPACITY) × (MIN_TAG_LIMIT ≤ t) × (t ≤ MAX_TAG)

abbrev pub AreRingLimits : ℕ → ℕ → ℕ → Type 0
AreRingLimits n laps passes = (MIN_CAPACITY ≤ n) × (n + passes ≤ NULL) × (MIN_LAPS ≤ laps) × (laps ≤ MAX_LAPS) × (MIN_PASSES ≤ passes) × (passes ≤ MAX_PASSES)

-- a container is new: a root that has given no pass, of a container of this capacity
abbrev pub IsNewQueue : ℕ → ℕ → Held → Type 0
IsNewQueue n t (Queue s) = IsNewSide queues.queue_reading (queue_machine.shape n t) s
IsNewQueue n t h = ⊥

abbrev pub IsNewStack : ℕ → ℕ → Held → Type 0
IsNewStack n t (Stack s) = IsNewSide stacks.stack_reading (stack_machine.shape n t) s
IsNewStack n t h = ⊥

abbrev pub IsNewRing : ℕ → ℕ → ℕ → Held → Type 0
IsNewRing n laps passes (Ring s) = IsNewSide rings.ring_reading (shape_for ℕ n laps passes) s
IsNewRing n laps passes h = ⊥

-- there is none: the numbers are beyond these limits, or there was no memory
abbrev pub NewRefused : Type 0 → ℕ → Type 0
NewRefused limits code = ((code ≡ BAD_CAPACITY) × (limits → ⊥)) ⊎ ((code ≡ NO_MEMORY) × limits)

abbrev pub HeldSplit : Held → Held → Result Held ℕ → Type 0
HeldSplit (Queue s) (Queue t) (Ok (Queue u)) = SideSplit queues.queue_reading s t (Ok u)
HeldSplit (Queue s) (Queue t) (Err code) = SideSplit queues.queue_reading s t (Err code)
HeldSplit (Stack s) (Stack t) (Ok (Stack u)) = SideSplit stacks.stack_reading s t (Ok u)
HeldSplit (Stack s) (Stack t) (Err code) = SideSplit stacks.stack_reading s t (Err code)
HeldSplit (Ring s) (Ring t) (Ok (Ring u)) = SideSplit rings.ring_reading s t (Ok u)
HeldSplit (Ring s) (Ring t) (Err code) = SideSplit rings.ring_reading s t (Err code)
HeldSplit Nothing Nothing (Err code) = (code ≡ OTHER_HANDLE) ⊎ (code ≡ NO_MEMORY)
HeldSplit (Producer p) g (Err code) = (g ≡ Producer p) × ((code ≡ OTHER_HANDLE) ⊎ (code ≡ NO_MEMORY))
HeldSplit (Consumer c) g (Err code) = (g ≡ Consumer c) × ((code ≡ OTHER_HANDLE) ⊎ (code ≡ NO_MEMORY))
HeldSplit h g made = ⊥

-- a pass that is to be joined to a root is one of its container
abbrev pub HeldMatch : Held → Held → Type 0
HeldMatch (Queue s) (Queue t) = SidesMatch s t
HeldMatch (Stack s) (Stack t) = SidesMatch s t
HeldMatch (Ring s) (Ring t) = SidesMatch s t
HeldMatch h g = Unit {0}

-- a root took a pass back
abbrev pub HeldJoined : Held → Held → Held → Type 0
HeldJoined (Queue s) (Queue t) (Queue u) = SideJoined queues.queue_reading s t u
HeldJoined (Stack s) (Stack t) (Stack u) = SideJoined stacks.stack_reading s t u
HeldJoined (Ring s) (Ring t) (Ring u) = SideJoined rings.ring_reading s t u
HeldJoined h g k = ⊥

-- why it did not
abbrev pub HeldUnjoined : Held → Held → ℕ → Type 0
HeldUnjoined (Queue s) (Queue t) code = SideUnjoined s t code
HeldUnjoined (Stack s) (Stack t) code = SideUnjoined s t code
HeldUnjoined (Ring s) (Ring t) code = SideUnjoined s t code
HeldUnjoined h g code = code ≡ OTHER_HANDLE

abbrev pub HeldFinished : Held → Held → Answer → Type 0
HeldFinished (Queue s) (Queue t) a = SideFinished queues.queue_reading queue_left.left_in s t a
HeldFinished (Stack s) (Stack t) a = SideFinished stacks.stack_reading stack_left.left_in s t a
HeldFinished (Ring s) (Ring t) a = SideFinished rings.ring_reading ring_left.left_in s t a
HeldFinished Nothing Nothing a = a ≡ bare OTHER_HANDLE
HeldFinished (Producer p) g a = (a ≡ bare OTHER_HANDLE) × (g ≡ Producer p)
HeldFinished (Consumer c) g a = (a ≡ bare OTHER_HANDLE) × (g ≡ Consumer c)
HeldFinished h g a = ⊥
