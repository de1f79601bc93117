-- Texts that go out one after another.
use Rattle.std.proofs.Common.{◌≡◌, ℕ, ◌+◌, ◌-◌, ◌^◌, ◌<◌, ◌≤◌, min, List, [], ◌∷◌, ◌++◌, length, take, drop, get_or, flat_map, Option, Result, Ok, Err, sym, ap, subst, ◌∙◌, append_assoc, append-nil, take-append-drop, length-take-le, arith, length-append}
use Rattle.std.proofs.lemmas.List.{take_rest, drop_more, take_more}
use Rattle.std.proofs.lemmas.Grind.{flat_map-append}
use Rattle.std.proofs.KnownBytes.{Appends-trans}
use Rattle.std.specs.Io.KnownBytes.{Appends}
use Rattle.audit.specs.declared.faults.AuditFault.{AuditFault}
use Rattle.audit.specs.declared.faults.AuditFault.TheVariants.{Write}
use Rattle.audit.specs.Output.{Sent, sent as out_to, Sends, Stops, Puts, Writes}

module _ (a b c : Sent) where
  pub Sends-trans : (o p : List ℕ) → Sends o a b → Sends p b c → Sends (o ++ p) a c
  Sends-trans o p first second = record {
    bytes = Appends-trans a.bytes b.bytes c.bytes o p first.bytes second.bytes;
    count = omega (arith, first.count, second.count, length-append o p);
  }

  Stops-after : (o t : List ℕ) → Sends o a b → Stops t b c → Stops (o ++ t) a c
  Stops-after o t sent stopped = record {
    out = o ++ stopped.out;
    rest = stopped.rest;
    front = ap (λ l. o ++ l) stopped.front ∙ sym (append_assoc o stopped.out stopped.rest);
    some = stopped.some;
    sends = Sends-trans o stopped.out sent stopped.sends;
  }

module _ (a b : Sent) where
  Stops-before : (t u : List ℕ) → Stops t a b → Stops (t ++ u) a b
  Stops-before t u stopped = record {
    out = stopped.out;
    rest = stopped.rest ++ u;
    front = ap (λ l. l ++ u) stopped.front ∙ append_assoc stopped.out stopped.rest u;
    some = omega (arith, stopped.some, length-append stopped.rest u);
    sends = stopped.sends;
  }

module _ (T U : Type 0) (a b c : Sent) where
  -- what went out before a writer failed, the text at which it failed, and what was to follow
  pub Puts-stopped : (whole o t u : List ℕ) (fault : AuditFault) → whole ≡ o ++ (t ++ u) → Sends o a b → Puts {T = T} t b c (Err fault) → Puts {T = U} whole a c (Err fault)
  Puts-stopped whole o t u (Write w) e sent stopped =
      (subst (λ l. Stops l a c) (append_assoc o t u ∙ sym e) (Stops-before a c (o ++ t) u (Stops-after a b c o t sent stopped.0)), stopped.1)

-- a list of texts in three parts: those before a place, the one there, and those after it
pub flat_map-at : {X : Type 0} (f : X → List ℕ) (xs : List X) (i : ℕ) (d : X) → i < length xs
    → flat_map f xs ≡ flat_map f (take i xs) ++ (f (get_or xs i d) ++ flat_map f (drop (i + 1) xs))
flat_map-at f xs i d l =
    ap (flat_map f) (sym (take-append-drop i xs)) ∙ flat_map-append f (take i xs) (drop i xs) ∙ ap (λ r. flat_map f (take i xs) ++ flat_map f r) (drop_more xs i d l)

-- the same where the one there is known
module _ {X : Type 0} (f : X → List ℕ) (xs : List X) (i : ℕ) (x : X) (text : List ℕ) (h : i < length xs) (here : x ≡ get_or xs i x) (e : text ≡ f x) where
  shown : f (get_or xs i x) ≡ text
  shown = sym (e ∙ ap f here)

  pub flat_map-split : flat_map f xs ≡ flat_map f (take i xs) ++ (text ++ flat_map f (drop (i + 1) xs))
  flat_map-split = flat_map-at f xs i x h ∙ ap (λ t. flat_map f (take i xs) ++ (t ++ flat_map f (drop (i + 1) xs))) shown

  pub flat_map-next : flat_map f (take (i + 1) xs) ≡ flat_map f (take i xs) ++ text
  flat_map-next =
      ap (flat_map f) (take_more xs i x h) ∙ flat_map-append f (take i xs) (get_or xs i x ∷ []) ∙ ap (λ t. flat_map f (take i xs) ++ t) (append-nil (f (get_or xs i x)) ∙ shown)

-- a write took the first n bytes of the rest
pub moves_front : (all done rest : List ℕ) (n : ℕ) → all ≡ done ++ rest → all ≡ (done ++ take n rest) ++ take (length rest - n) (drop n rest)
moves_front all done rest n e =
    e ∙ ap (λ l. done ++ l) (sym (take-append-drop n rest)) ∙ sym (append_assoc done (take n rest) (drop n rest)) ∙ ap (λ l. (done ++ take n rest) ++ l) (sym (take_rest rest n))

pub Sends-more : (a b : Sent) (c : Option (List ℕ)) (o rest : List ℕ) (taken : ℕ) → Sends o a b → Appends b.bytes c (take taken rest) → taken ≤ length rest
    → Sends (o ++ take taken rest) a (out_to c (min (b.count + taken) (2 ^ 64 - 1)))
Sends-more a b c o rest taken sent more within = Sends-trans a b _ o (take taken rest) sent (record { bytes = more; count = omega (arith, length-take-le taken rest within) })

-- a call's count starts at 0
pub from-start : {text : List ℕ} {a b : Sent} → a.count ≡ 0 → Sends text a b → Sends text (out_to a.bytes 0) b
from-start {text} {a} {b} e sent = subst (λ n. Sends text (out_to a.bytes n) b) e sent

module _ (a : Option (List ℕ)) (b c : Sent) where
  -- the last of the text
  pub Writes-whole : (whole o t : List ℕ) (r : Result (Unit {0}) AuditFault) → whole ≡ o ++ t → Sends o (out_to a 0) b → Puts t b c r → Writes whole a c.bytes r
  Writes-whole whole o t (Ok u) e sent puts = subst (Appends a c.bytes) (sym e) (Sends-trans (out_to a 0) b c o t sent puts).bytes
  Writes-whole whole o t (Err (Write w)) e sent puts =
      rw (puts.1) (subst (λ l. Stops l (out_to a 0) c) (sym e) (Stops-after (out_to a 0) b c o t sent puts.0))

module _ (T : Type 0) (a : Option (List ℕ)) (b c : Sent) where
  -- what went out before a writer failed, the text at which it failed, and what was to follow
  pub Writes-stopped : (whole o t u : List ℕ) (fault : AuditFault) → whole ≡ o ++ (t ++ u) → Sends o (out_to a 0) b → Puts {T = T} t b c (Err fault) → Writes whole a c.bytes (Err fault)
  Writes-stopped whole o t u (Write w) e sent puts =
      let (stopped, count) = Puts-stopped T T (out_to a 0) b c whole o t u (Write w) e sent puts in
      rw count stopped
