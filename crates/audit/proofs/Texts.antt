-- The texts in the parts in which they are written.
use Rattle.std.proofs.Common.{◌≡◌, ℕ, ◌+◌, ◌<◌, List, [], ◌∷◌, ◌++◌, length, drop, get_or, flat_map, codes, decimal, Vec, ap, append_assoc, add_assoc}
use Rattle.std.specs.declared.alloc.Global.{Global}
use Rattle.std.proofs.lemmas.List.{drop_more}
use Rattle.std.proofs.lemmas.List.Sums.{sum_by-cons}
use Rattle.relay.specs.declared.messages.Message.{Message}
use Rattle.relay.specs.declared.outcome.Taken.{Taken}
use Rattle.relay.specs.declared.outcome.Relayed.{Relayed}
use Rattle.audit.specs.declared.message_file.TheConstants.{LINE_FEED}
use Rattle.audit.specs.declared.counts.Counts.{Counts}
use Rattle.audit.specs.Counting.{counts_of, counts_from, sum_of, total}
use Rattle.audit.specs.Texts.{counts_line, message_line, take_line, list_text}

abbrev pub counts_parts : (name number read delivered left unsent : List ℕ) → List ℕ
counts_parts name number read delivered left unsent =
    name ++ (number ++ (codes " read " ++ (read ++ (codes " delivered " ++ (delivered ++ (codes " left " ++ (left ++ (codes " unsent " ++ (unsent ++ (LINE_FEED ∷ []))))))))))

pub counts_line-parts : (name number read delivered left unsent : List ℕ) (c : Counts) → read ≡ decimal (c.delivered + c.left + c.unsent) → delivered ≡ decimal c.delivered
    → left ≡ decimal c.left → unsent ≡ decimal c.unsent → counts_line (name ++ number) c ≡ counts_parts name number read delivered left unsent
counts_line-parts name number read delivered left unsent c r d l u = rw (r, d, l, u) (simp append_assoc)

abbrev pub message_parts : (word number sender seq text : List ℕ) → List ℕ
message_parts word number sender seq text =
    word ++ (number ++ (codes " sender " ++ (sender ++ (codes " seq " ++ (seq ++ (codes " " ++ (text ++ (LINE_FEED ∷ []))))))))

pub message_line-parts : (word number sender seq text : List ℕ) (m : Message) → sender ≡ decimal m.sender → seq ≡ decimal m.seq → text ≡ m.text.items
    → message_line (word ++ number) m ≡ message_parts word number sender seq text
message_line-parts word number sender seq text m s q t = rw (s, q, t) (simp append_assoc)

-- the counts of the sender at this place, and those after it
pub counts_from-at : (r : Relayed) (lists : List (Vec Message Global)) (i : ℕ) (d : Vec Message Global) → i < length lists
    → counts_from r i (drop i lists) ≡ counts_of r i (get_or lists i d) ∷ counts_from r (i + 1) (drop (i + 1) lists)
counts_from-at r lists i d h = ap (counts_from r i) (drop_more lists i d h)

pub total-cons : (c : Counts) (cs : List Counts) → total (c ∷ cs) ≡ sum_of c (total cs)
total-cons c cs =
    let delivered = sum_by-cons (λ (x : Counts). x.delivered) c cs in
    let left = sum_by-cons (λ (x : Counts). x.left) c cs in
    let unsent = sum_by-cons (λ (x : Counts). x.unsent) c cs in
    λ i. record { delivered = delivered i; left = left i; unsent = unsent i }

pub sum_of-assoc : (b c d : Counts) → sum_of (sum_of b c) d ≡ sum_of b (sum_of c d)
sum_of-assoc b c d = simp add_assoc

-- the list in the three parts in which it is written
pub list_text-parts : (r : Relayed) (delivered : List Taken) (left : List Message) (unsent : List (Vec Message Global)) → delivered ≡ r.delivered.items → left ≡ r.left.items
    → unsent ≡ r.unsent.items
    → list_text r ≡ flat_map take_line delivered ++ (flat_map (message_line (codes "left")) left ++ flat_map (λ messages. flat_map (message_line (codes "unsent")) messages.items) unsent)
list_text-parts r delivered left unsent d l u =
    rw (d, l, u)
    (append_assoc (flat_map take_line r.delivered.items) (flat_map (message_line (codes "left")) r.left.items)
    (flat_map (λ (messages : Vec Message Global). flat_map (message_line (codes "unsent")) messages.items) r.unsent.items))
