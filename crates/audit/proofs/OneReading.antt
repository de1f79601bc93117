-- A text is a message file of one list of lines, and no fault stands in it.
use Rattle.std.proofs.Common.{◌≡◌, ◌≢◌, ℕ, suc, ◌<◌, ◌≤◌, List, [], ◌∷◌, ◌++◌, length, All, refl, sym, ap, subst, ◌∙◌, append_assoc, append-nil, arith, length-append, Result, Ok, Err, Vec, Option, Some, None, IfSome}
use Rattle.std.specs.declared.alloc.Global.{Global}
use Rattle.std.specs.Io.KnownBytes.{Consumes, IsAtEnd}
use Rattle.relay.specs.declared.messages.Message.{Message}
use Rattle.audit.specs.declared.message_file.TheConstants.{MAX_LINE, MAX_LINES, LINE_FEED}
use Rattle.audit.specs.declared.faults.ReadFault.{ReadFault}
use Rattle.audit.specs.declared.faults.ReadFault.TheVariants.{NoMemory, Device, LineTooLong, NoFinalNewline, TooMany, TooLong}
use Rattle.audit.specs.MessageFile.{IsLine, text_of, IsMessageFile, IsFirstFault}
use Rattle.audit.specs.Reading.{texts, Answers, ReachesEnd, ReadsAll}

abbrev NoFeed : ℕ → Type 0
NoFeed b = b ≢ LINE_FEED

abbrev IsPlain : List ℕ → Type 0
IsPlain line = All NoFeed line

module _ {X : Type 0} (P : X → Type 0) where
  head_of : (x : X) (xs : List X) → All P (x ∷ xs) → P x
  head_of x xs h = h 0 x (omega arith)

  tail_of : (x : X) (xs : List X) → All P (x ∷ xs) → All P xs
  tail_of x xs h = λ k d l. h (suc k) d (omega arith)

-- the first line of a text is told by its first line feed
same-line : (l m a b : List ℕ) → IsPlain l → IsPlain m → l ++ LINE_FEED ∷ a ≡ m ++ LINE_FEED ∷ b → (l ≡ m) × (a ≡ b)
same-line [] [] a b p q e = (refl, cc)
same-line [] (y ∷ m) a b p q e = let no : y ≡ LINE_FEED → ⊥ = head_of NoFeed y m q in absurd (no (cc))
same-line (x ∷ l) [] a b p q e = let no : x ≡ LINE_FEED → ⊥ = head_of NoFeed x l p in absurd (no (cc))
same-line (x ∷ l) (y ∷ m) a b p q e =
    let heads : x ≡ y = cc in
    let tails : l ++ LINE_FEED ∷ a ≡ m ++ LINE_FEED ∷ b = cc in
    let rest = same-line l m a b (tail_of NoFeed x l p) (tail_of NoFeed y m q) tails in
    (cc (heads, rest.0), rest.1)

-- what has no line feed and begins a text begins its first line
within-line : (begun l tail rest : List ℕ) → IsPlain begun → l ++ LINE_FEED ∷ rest ≡ begun ++ tail → (more : List ℕ) × (l ≡ begun ++ more) × (more ++ LINE_FEED ∷ rest ≡ tail)
within-line [] l tail rest p e = (l, refl, e)
within-line (b ∷ begun) [] tail rest p e = let no : b ≡ LINE_FEED → ⊥ = head_of NoFeed b begun p in absurd (no (cc))
within-line (b ∷ begun) (x ∷ l) tail rest p e =
    let heads : x ≡ b = cc in
    let tails : l ++ LINE_FEED ∷ rest ≡ begun ++ tail = cc in
    let (more, front, back) = within-line begun l tail rest (tail_of NoFeed b begun p) tails in
    (more, cc (heads, front), back)

text_of-cons : (l : List ℕ) (ls : List (List ℕ)) (tail : List ℕ) → text_of (l ∷ ls) ++ tail ≡ l ++ LINE_FEED ∷ (text_of ls ++ tail)
text_of-cons l ls tail = simp append_assoc

-- whole lines that begin a file are its first lines
first-lines : (ls lines : List (List ℕ)) (tail : List ℕ) → All IsLine ls → All IsLine lines → text_of lines ≡ text_of ls ++ tail
    → (others : List (List ℕ)) × (lines ≡ ls ++ others) × (text_of others ≡ tail) × All IsLine others
first-lines [] lines tail p q e = (lines, refl, e, q)
first-lines (l ∷ ls) [] tail p q e = absurd (omega (arith, ap length (e ∙ text_of-cons l ls tail), length-append l (LINE_FEED ∷ (text_of ls ++ tail))))
first-lines (l ∷ ls) (m ∷ lines) tail p q e =
    let joined = sym (text_of-cons m lines []) ∙ append-nil (text_of (m ∷ lines)) ∙ e ∙ text_of-cons l ls tail in
    let both = same-line m l (text_of lines ++ []) (text_of ls ++ tail) (head_of IsLine m lines q).plain (head_of IsLine l ls p).plain joined in
    let (others, front, back, each) = first-lines ls lines tail (tail_of IsLine l ls p) (tail_of IsLine m lines q) (sym (append-nil (text_of lines)) ∙ both.1) in
    (others, cc (both.0, front), back, each)

no-text : (others : List (List ℕ)) → text_of others ≡ [] → others ≡ []
no-text [] e = refl
no-text (l ∷ ls) e = absurd (omega (arith, ap length (sym (text_of-cons l ls []) ∙ append-nil (text_of (l ∷ ls)) ∙ e), length-append l (LINE_FEED ∷ (text_of ls ++ []))))

-- a text is the file of one list of lines
one-reading : (xs ys : List (List ℕ)) → All IsLine xs → All IsLine ys → text_of xs ≡ text_of ys → xs ≡ ys
one-reading xs ys p q e =
    let (others, front, back, each) = first-lines ys xs [] q p (e ∙ sym (append-nil (text_of ys))) in
    front ∙ ap (λ o. ys ++ o) (no-text others back) ∙ append-nil ys

joined-lines : (l : List ℕ) (os : List (List ℕ)) (tail : List ℕ) → text_of (l ∷ os) ≡ tail → l ++ LINE_FEED ∷ (text_of os ++ []) ≡ tail
joined-lines l os tail e = sym (text_of-cons l os []) ∙ append-nil (text_of (l ∷ os)) ∙ e

no-more : (more : List ℕ) → length more ≤ 0 → more ≡ []
no-more [] h = refl
no-more (x ∷ more) h = absurd (omega arith)

-- no line of a file goes on after 1,024 bytes
no-long-line : (others : List (List ℕ)) (begun tail : List ℕ) (b : ℕ) → All IsLine others → IsLine begun → length begun ≡ MAX_LINE → b ≢ LINE_FEED
    → text_of others ≡ begun ++ b ∷ tail → ⊥
no-long-line [] begun tail b each p full q e = omega (arith, ap length e, length-append begun (b ∷ tail))
no-long-line (l ∷ os) begun tail b each p full q e =
    let (more, front, back) = within-line begun l (b ∷ tail) (text_of os ++ []) p.plain (joined-lines l os _ e) in
    let short = (head_of IsLine l os each).short in
    let none : more ≡ [] = no-more more (omega (arith, ap length front, length-append begun more)) in
    let same : LINE_FEED ∷ (text_of os ++ []) ≡ b ∷ tail = ap (λ m. m ++ LINE_FEED ∷ (text_of os ++ [])) (sym none) ∙ back in
    q (cc same)

-- a file does not end within a line
no-begun-line : (others : List (List ℕ)) (begun : List ℕ) → IsLine begun → 0 < length begun → text_of others ≡ begun ++ [] → ⊥
no-begun-line [] begun p some e = omega (arith, ap length e, length-append begun [])
no-begun-line (l ∷ os) begun p some e =
    let (more, front, back) = within-line begun l [] (text_of os ++ []) p.plain (joined-lines l os _ e) in
    omega (arith, ap length back, length-append more (LINE_FEED ∷ (text_of os ++ [])))

-- after as many lines as a file may have nothing follows
no-further-line : (ls others : List (List ℕ)) (begun more : List ℕ) → length ls ≡ MAX_LINES → length (ls ++ others) ≤ MAX_LINES → 0 < length more
    → text_of others ≡ begun ++ more → ⊥
no-further-line ls [] begun more full few some e = omega (arith, ap length e, length-append begun more)
no-further-line ls (l ∷ os) begun more full few some e = omega (arith, length-append ls (l ∷ os))

-- what follows the whole lines before a fault
after-lines : (fault : ReadFault) (bytes rest : List ℕ) (lines : List (List ℕ)) (h : IsFirstFault fault bytes) → IsMessageFile (bytes ++ rest) lines
    → (others : List (List ℕ)) × (lines ≡ h.lines ++ others) × (text_of others ≡ h.begun ++ (h.more ++ rest)) × All IsLine others
after-lines fault bytes rest lines h file =
    first-lines h.lines lines (h.begun ++ (h.more ++ rest)) h.each file.each
    (sym file.whole ∙ ap (λ b. b ++ rest) h.whole ∙ regroup (text_of h.lines) h.begun h.more rest)
  where
    regroup : (a b c d : List ℕ) → (a ++ b ++ c) ++ d ≡ a ++ (b ++ (c ++ d))
    regroup a b c d = simp append_assoc

-- what a fault shows stands in no message file
reads-all : (sender : ℕ) (result : Result (Vec Message Global) ReadFault) (bytes rest : List ℕ) (lines : List (List ℕ)) → Answers sender bytes result
    → (ReachesEnd result → rest ≡ []) → IsMessageFile (bytes ++ rest) lines → ReadsAll lines result
reads-all sender (Ok messages) bytes rest lines h end file =
    let read = h.0 in
    one-reading (texts messages.items) lines read.each file.each (sym read.whole ∙ sym (append-nil bytes) ∙ ap (λ r. bytes ++ r) (sym (end tt)) ∙ file.whole)
reads-all sender (Err NoMemory) bytes rest lines h end file = tt
reads-all sender (Err Device) bytes rest lines h end file = tt
reads-all sender (Err TooLong) bytes rest lines h end file = tt
reads-all sender (Err (LineTooLong n)) bytes rest lines h end file =
    let (others, front, back, each) = after-lines (LineTooLong n) bytes rest lines h file in
    let (at, room, full, b, more, plain, next) = h.shown in
    no-long-line others h.begun (more ++ rest) b each h.last full plain (back ∙ ap (λ m. h.begun ++ (m ++ rest)) next)
reads-all sender (Err NoFinalNewline) bytes rest lines h end file =
    let (others, front, back, each) = after-lines NoFinalNewline bytes rest lines h file in
    let nothing : h.more ++ rest ≡ [] = cc (end tt, h.shown.2) in
    no-begun-line others h.begun h.last h.shown.0 (back ∙ ap (λ m. h.begun ++ m) nothing)
reads-all sender (Err TooMany) bytes rest lines h end file =
    let (others, front, back, each) = after-lines TooMany bytes rest lines h file in
    let few : length (h.lines ++ others) ≤ MAX_LINES = subst (λ l. length l ≤ MAX_LINES) front file.few in
    no-further-line h.lines others h.begun (h.more ++ rest) h.shown.0 few (omega (arith, h.shown.2, length-append h.more rest)) back

-- a message file is accepted with its own lines, or memory, the reader or the count of reads is at fault
pub accepts-file : (before after : Option (List ℕ)) (sender : ℕ) (result : Result (Vec Message Global) ReadFault) (bytes : List ℕ)
    → Consumes before after bytes → (ReachesEnd result → IsAtEnd after) → Answers sender bytes result
    → (lines : List (List ℕ)) → IfSome before (λ text. IsMessageFile text lines → ReadsAll lines result)
accepts-file None after sender result bytes took end h lines = tt
accepts-file (Some text) None sender result bytes took end h lines = absurd took
accepts-file (Some text) (Some rest) sender result bytes took end h lines = λ file. reads-all sender result bytes rest lines h end (subst (λ t. IsMessageFile t lines) took file)
