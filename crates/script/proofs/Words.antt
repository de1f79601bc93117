-- A pass or a call that is read is written so, and one that is written is read again.
use Rattle.std.proofs.Common.{◌≡◌, ◌≢◌, ℕ, Bool, true, false, cond, leb, ◌&&◌, List, [], ◌∷◌, ◌++◌, length, Option, Some, None, option_map, refl, sym, ap, subst, arith}
use Rattle.std.specs.Prelude.{IsTrue, codes, option_and_then}
use Rattle.std.specs.Char.{is_ascii_alphanumeric, is_ascii_lowercase}
use Rattle.std.specs.List.{list_all}
use Rattle.std.specs.Str.{bytes_eq}
use Rattle.std.proofs.lemmas.Bool.{and_parts, and_from, le-leb, leb-true, false_from_ne_true}
use Rattle.std.proofs.lemmas.Option.{cond_some, same_Some}
use Rattle.std.proofs.lemmas.Slice.Eq.{bytes_eq-Decides}
use Rattle.bounded_model.specs.declared.commands.Command.{Command}
use Rattle.bounded_model.specs.declared.commands.Command.TheVariants.{Put, Take, Close, Shut, Look}
use Rattle.script.specs.declared.line.PassName.{PassName}
use Rattle.script.specs.Reading.{pass_of, call_with, call_alone, call_of_words, command_of}
use Rattle.script.specs.Words.{value_of, word_and_rest}
use Rattle.script.specs.Script.{IsCommand, command_text}
use Rattle.script.proofs.Cuts.{cut_found}
use Rattle.script.proofs.Spaced.{value_again, value_found}

-- two texts are told apart
pub differs : (xs ys : List ℕ) → (xs ≡ ys → ⊥) → bytes_eq xs ys ≡ false
differs xs ys h = false_from_ne_true (bytes_eq xs ys) (λ e. h ((bytes_eq-Decides xs ys).0 e))

pub same_text : (xs ys : List ℕ) → bytes_eq xs ys ≡ true → xs ≡ ys
same_text xs ys e = (bytes_eq-Decides xs ys).0 e

-- ---- passes

named : (p : PassName) (b : Bool) → b ≡ true → cond b (Some p) None ≡ Some p
named p b e = rw e refl

pub pass_again : (pass : PassName) → IsTrue (is_ascii_lowercase pass.0) → pass_of (pass.0 ∷ []) ≡ Some pass
pass_again pass is = named pass (is_ascii_lowercase pass.0) is

pub pass_found : (word : List ℕ) (pass : PassName) → pass_of word ≡ Some pass → (word ≡ pass.0 ∷ []) × IsTrue (is_ascii_lowercase pass.0)
pass_found [] pass e = absurd cc
pass_found (letter ∷ []) pass e =
    let name : PassName = record { 0 = letter } in
    let t = cond_some (is_ascii_lowercase letter) name pass e in
    let same : letter ≡ pass.0 = ap (λ (p : PassName). p.0) t.1 in
    (ap (λ (b : ℕ). b ∷ []) same, subst (λ (b : ℕ). IsTrue (is_ascii_lowercase b)) same t.0)
pass_found (letter ∷ other ∷ word) pass e = absurd cc

-- a pass's name is no space
pub no_space : (b : ℕ) → IsTrue (is_ascii_lowercase b) → b ≢ 32
no_space b is e = let h : is_ascii_lowercase 32 ≡ true = subst (λ (c : ℕ). IsTrue (is_ascii_lowercase c)) e is in absurd cc

-- ---- calls

pub command_again : (command : Command (List ℕ)) → IsCommand command → command_of (command_text command) ≡ Some command
unfolding command_of
command_again (Put value) is = ap (option_map (λ value. Put value)) (value_again value is)
command_again Take is = refl
command_again Close is = refl
command_again Shut is = refl
command_again Look is = refl

-- what was found, and how it is written
pub record Wrote (words : List ℕ) (command : Command (List ℕ)) : Type 0 where
  pub written : words ≡ command_text command
  pub is : IsCommand command

Wrote-at : (words : List ℕ) (m n : Command (List ℕ)) → Some m ≡ Some n → Wrote words m → Wrote words n
Wrote-at words m n e w = subst (λ (c : Command (List ℕ)). Wrote words c) (same_Some m n e) w

with_found : (verb word : List ℕ) (command : Command (List ℕ)) → call_with verb word ≡ Some command → Wrote (verb ++ 32 ∷ word) command
with_found verb word command e = go (bytes_eq verb (codes "put")) refl (value_of word) refl e
  where
    go : (b : Bool) → bytes_eq verb (codes "put") ≡ b → (o : Option (List ℕ)) → value_of word ≡ o → cond b (option_map (λ value. Put value) o) None ≡ Some command → Wrote (verb ++ 32 ∷ word) command
    go true is-put (Some value) spelled found =
        let v = value_found word value spelled in
        let w : Wrote (verb ++ 32 ∷ word) (Put value) = record { written = rw (same_text verb (codes "put") is-put, v.0) refl; is = v.1 } in
        Wrote-at (verb ++ 32 ∷ word) (Put value) command found w
    go true is-put None spelled found = absurd cc
    go false is-put o spelled found = absurd cc

alone_found : (verb : List ℕ) (command : Command (List ℕ)) → call_alone verb ≡ Some command → Wrote verb command
alone_found verb command e = take (bytes_eq verb (codes "take")) refl e
  where
    look : (b : Bool) → bytes_eq verb (codes "look") ≡ b → cond b (Some Look) None ≡ Some command → Wrote verb command
    look true is found = Wrote-at verb Look command found (record { written = same_text verb (codes "look") is; is = tt })
    look false is found = absurd cc

    shut : (b : Bool) → bytes_eq verb (codes "shut") ≡ b → cond b (Some Shut) (cond (bytes_eq verb (codes "look")) (Some Look) None) ≡ Some command → Wrote verb command
    shut true is found = Wrote-at verb Shut command found (record { written = same_text verb (codes "shut") is; is = tt })
    shut false is found = look (bytes_eq verb (codes "look")) refl found

    close : (b : Bool) → bytes_eq verb (codes "close") ≡ b → cond b (Some Close) (cond (bytes_eq verb (codes "shut")) (Some Shut) (cond (bytes_eq verb (codes "look")) (Some Look) None)) ≡ Some command → Wrote verb command
    close true is found = Wrote-at verb Close command found (record { written = same_text verb (codes "close") is; is = tt })
    close false is found = shut (bytes_eq verb (codes "shut")) refl found

    take : (b : Bool) → bytes_eq verb (codes "take") ≡ b → cond b (Some Take) (cond (bytes_eq verb (codes "close")) (Some Close) (cond (bytes_eq verb (codes "shut")) (Some Shut) (cond (bytes_eq verb (codes "look")) (Some Look) None))) ≡ Some command → Wrote verb command
    take true is found = Wrote-at verb Take command found (record { written = same_text verb (codes "take") is; is = tt })
    take false is found = close (bytes_eq verb (codes "close")) refl found

pub command_found : (words : List ℕ) (command : Command (List ℕ)) → command_of words ≡ Some command → Wrote words command
unfolding command_of
command_found words command e = go (word_and_rest words) refl e
  where
    go : (o : Option (List ℕ × List ℕ)) → word_and_rest words ≡ o → call_of_words words o ≡ Some command → Wrote words command
    go None cut found = alone_found words command found
    go (Some parts) cut found =
        subst (λ (ws : List ℕ). Wrote ws command) (sym (cut_found 32 words parts.0 parts.1 cut).parts) (with_found parts.0 parts.1 command found)
