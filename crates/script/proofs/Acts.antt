-- A line that is read is written so, and a line that is written is read again.
use Rattle.std.proofs.Common.{◌≡◌, ℕ, ◌^◌, ◌<◌, ◌≤◌, ◌⊎◌, Bool, true, false, cond, leb, ◌&&◌, List, [], ◌∷◌, ◌++◌, Option, Some, None, option_map, refl, sym, ap, subst, ◌∙◌, arith, inl, inr}
use Rattle.std.specs.Prelude.{IsTrue, codes, option_and_then}
use Rattle.std.specs.Char.{is_ascii_lowercase}
use Rattle.std.specs.Fmt.{decimal}
use Rattle.std.specs.List.{AllByRecursion}
use Rattle.std.specs.Str.{bytes_eq}
use Rattle.std.proofs.lemmas.Bool.{and_parts, and_from, le-leb, leb-true}
use Rattle.std.proofs.lemmas.Option.{cond_some, same_Some}
use Rattle.bounded_model.specs.declared.commands.Command.{Command}
use Rattle.bounded_model.specs.declared.commands.Command.TheVariants.{Put, Take, Close, Shut, Look}
use Rattle.script.specs.declared.line.PassName.{PassName}
use Rattle.script.specs.declared.line.Act.{Act}
use Rattle.script.specs.declared.line.Act.TheVariants.{Call, Begin, Step, Range, Fold, ReversedFold, Meet, Drop}
use Rattle.script.specs.declared.line.Line.{Line}
use Rattle.script.specs.declared.line.Line.TheVariants.{By, Finish}
use Rattle.script.specs.Reading.{pass_of, command_of, in_step_range, steps_of, call_in, act_alone, act_with, act_of_words, act_of, line_of}
use Rattle.script.specs.Words.{number_of, values_of, word_and_rest}
use Rattle.script.specs.Script.{IsCommand, IsAct, IsLine, IsValue, command_text, act_text, line_text}
use Rattle.script.specs.Words.{spaced}
use Rattle.script.proofs.Cuts.{Lacks-cons, cut_again, cut_found}
use Rattle.script.proofs.Numbers.{number_again, number_found}
use Rattle.script.proofs.Spaced.{values_again, values_found}
use Rattle.script.proofs.Words.{differs, same_text, pass_again, pass_found, no_space, command_again, command_found}

-- ---- counts of steps

counted : (n : ℕ) (b : Bool) → b ≡ true → cond b (Some n) None ≡ Some n
counted n b e = rw e refl

steps_again : (count : ℕ) → 1 ≤ count → count ≤ 65535 → steps_of (decimal count) ≡ Some count
steps_again count some few =
    ap (option_and_then in_step_range) (number_again count (omega arith))
    ∙ counted count (leb 1 count && leb count 65535) (and_from _ _ (le-leb _ _ some) (le-leb _ _ few))

steps_found : (word : List ℕ) (count : ℕ) → steps_of word ≡ Some count → (word ≡ decimal count) × ((1 ≤ count) × (count ≤ 65535))
steps_found word count e = go (number_of word) refl e
  where
    go : (o : Option ℕ) → number_of word ≡ o → option_and_then in_step_range o ≡ Some count → (word ≡ decimal count) × ((1 ≤ count) × (count ≤ 65535))
    go None is found = absurd cc
    go (Some n) is found =
        let t = cond_some (leb 1 n && leb n 65535) n count found in
        let p = and_parts (leb 1 n) (leb n 65535) t.0 in
        let range : (1 ≤ n) × (n ≤ 65535) = (leb-true _ _ p.0, leb-true _ _ p.1) in
        ((number_found word n is).1 ∙ ap decimal t.1, subst (λ (k : ℕ). (1 ≤ k) × (k ≤ 65535)) t.1 range)

-- ---- what a pass does

range_again : (values : List (List ℕ)) → AllByRecursion IsValue values → act_of (codes "range" ++ spaced values) ≡ Some (Range values)
unfolding act_of act_alone
range_again [] each = refl
range_again (value ∷ more) each = ap (option_map (λ values. Range values)) (values_again value more each)

call_again : (command : Command (List ℕ)) → IsCommand command → act_of (command_text command) ≡ Some (Call command)
unfolding act_of act_alone
call_again (Put value) is = ap (option_map (λ command. Call command)) (command_again (Put value) is)
call_again Take is = ap (option_map (λ command. Call command)) (command_again Take is)
call_again Close is = ap (option_map (λ command. Call command)) (command_again Close is)
call_again Shut is = ap (option_map (λ command. Call command)) (command_again Shut is)
call_again Look is = ap (option_map (λ command. Call command)) (command_again Look is)

pub act_again : (act : Act) → IsAct act → act_of (act_text act) ≡ Some act
unfolding act_of act_alone
act_again (Call command) is = call_again command is
act_again (Begin command) is = ap (option_map (λ command. Begin command)) (command_again command is)
act_again (Step count) is = ap (option_map (λ count. Step count)) (steps_again count is.0 is.1)
act_again (Range values) is = range_again values is
act_again Fold is = refl
act_again ReversedFold is = refl
act_again (Meet other) is = ap (option_map (λ other. Meet other)) (pass_again other is)
act_again Drop is = refl

-- what was found, and how it is written
pub record WroteAct (words : List ℕ) (act : Act) : Type 0 where
  pub written : words ≡ act_text act
  pub is : IsAct act

WroteAct-at : (words : List ℕ) (a b : Act) → Some a ≡ Some b → WroteAct words a → WroteAct words b
WroteAct-at words a b e w = subst (λ (act : Act). WroteAct words act) (same_Some a b e) w

-- which of two readings gave an act
chosen : (verb text : List ℕ) (a b : Option Act) (act : Act) → cond (bytes_eq verb text) a b ≡ Some act → ((verb ≡ text) × (a ≡ Some act)) ⊎ (b ≡ Some act)
chosen verb text a b act e = go (bytes_eq verb text) refl e
  where
    go : (t : Bool) → bytes_eq verb text ≡ t → cond t a b ≡ Some act → ((verb ≡ text) × (a ≡ Some act)) ⊎ (b ≡ Some act)
    go true is found = inl (same_text verb text is, found)
    go false is found = inr found

call_found : (words : List ℕ) (act : Act) → call_in words ≡ Some act → WroteAct words act
call_found words act e = go (command_of words) refl e
  where
    go : (o : Option (Command (List ℕ))) → command_of words ≡ o → option_map (λ command. Call command) o ≡ Some act → WroteAct words act
    go None is found = absurd cc
    go (Some command) is found =
        let w = command_found words command is in
        WroteAct-at words (Call command) act found (record { written = w.written; is = w.is })

alone_found : (word : List ℕ) (act : Act) → act_alone word ≡ Some act → WroteAct word act
unfolding act_alone
alone_found word act e =
    elim (chosen word (codes "range") _ _ act e) [
      | inl h ↦ WroteAct-at word (Range []) act h.1 (record { written = h.0; is = tt })
      | inr e ↦ elim (chosen word (codes "fold") _ _ act e) [
        | inl h ↦ WroteAct-at word Fold act h.1 (record { written = h.0; is = tt })
        | inr e ↦ elim (chosen word (codes "rfold") _ _ act e) [
          | inl h ↦ WroteAct-at word ReversedFold act h.1 (record { written = h.0; is = tt })
          | inr e ↦ elim (chosen word (codes "drop") _ _ act e) [
            | inl h ↦ WroteAct-at word Drop act h.1 (record { written = h.0; is = tt })
            | inr e ↦ call_found word act e
          ]
        ]
      ]
    ]

-- behind a verb
module _ (verb rest : List ℕ) (act : Act) where
  begin_found : verb ≡ codes "begin" → (o : Option (Command (List ℕ))) → command_of rest ≡ o → option_map (λ command. Begin command) o ≡ Some act → WroteAct (verb ++ 32 ∷ rest) act
  begin_found verb-is None is found = absurd cc
  begin_found verb-is (Some command) is found =
      let w = command_found rest command is in
      WroteAct-at (verb ++ 32 ∷ rest) (Begin command) act found (record { written = rw (verb-is, w.written) refl; is = w.is })

  step_found : verb ≡ codes "step" → (o : Option ℕ) → steps_of rest ≡ o → option_map (λ count. Step count) o ≡ Some act → WroteAct (verb ++ 32 ∷ rest) act
  step_found verb-is None is found = absurd cc
  step_found verb-is (Some count) is found =
      let w = steps_found rest count is in
      WroteAct-at (verb ++ 32 ∷ rest) (Step count) act found (record { written = rw (verb-is, w.0) refl; is = w.1 })

  range_found : verb ≡ codes "range" → (o : Option (List (List ℕ))) → values_of rest ≡ o → option_map (λ values. Range values) o ≡ Some act → WroteAct (verb ++ 32 ∷ rest) act
  range_found verb-is None is found = absurd cc
  range_found verb-is (Some values) is found =
      let w = values_found rest values is in
      WroteAct-at (verb ++ 32 ∷ rest) (Range values) act found (record { written = ap (λ (v : List ℕ). v ++ 32 ∷ rest) verb-is ∙ ap (λ (t : List ℕ). codes "range" ++ t) w.written; is = w.each })

  meet_found : verb ≡ codes "meet" → (o : Option PassName) → pass_of rest ≡ o → option_map (λ other. Meet other) o ≡ Some act → WroteAct (verb ++ 32 ∷ rest) act
  meet_found verb-is None is found = absurd cc
  meet_found verb-is (Some other) is found =
      let w = pass_found rest other is in
      WroteAct-at (verb ++ 32 ∷ rest) (Meet other) act found (record { written = rw (verb-is, w.0) refl; is = w.1 })

with_found : (verb rest : List ℕ) (act : Act) → act_with (verb ++ 32 ∷ rest) verb rest ≡ Some act → WroteAct (verb ++ 32 ∷ rest) act
with_found verb rest act e =
    elim (chosen verb (codes "begin") _ _ act e) [
      | inl h ↦ begin_found verb rest act h.0 (command_of rest) refl h.1
      | inr e ↦ elim (chosen verb (codes "step") _ _ act e) [
        | inl h ↦ step_found verb rest act h.0 (steps_of rest) refl h.1
        | inr e ↦ elim (chosen verb (codes "range") _ _ act e) [
          | inl h ↦ range_found verb rest act h.0 (values_of rest) refl h.1
          | inr e ↦ elim (chosen verb (codes "meet") _ _ act e) [
            | inl h ↦ meet_found verb rest act h.0 (pass_of rest) refl h.1
            | inr e ↦ call_found (verb ++ 32 ∷ rest) act e
          ]
        ]
      ]
    ]

pub act_found : (words : List ℕ) (act : Act) → act_of words ≡ Some act → WroteAct words act
unfolding act_of
act_found words act e = go (word_and_rest words) refl e
  where
    go : (o : Option (List ℕ × List ℕ)) → word_and_rest words ≡ o → act_of_words words o ≡ Some act → WroteAct words act
    go None cut found = alone_found words act found
    go (Some parts) cut found =
        let whole : words ≡ parts.0 ++ 32 ∷ parts.1 = (cut_found 32 words parts.0 parts.1 cut).parts in
        subst (λ (ws : List ℕ). WroteAct ws act) (sym whole) (with_found parts.0 parts.1 act (subst (λ (ws : List ℕ). act_with ws parts.0 parts.1 ≡ Some act) whole found))

-- ---- lines

not_finish : (b : ℕ) (cs : List ℕ) → b ∷ 32 ∷ cs ≡ codes "finish" → ⊥
not_finish b cs e = cc

pub line_again : (line : Line) → IsLine line → line_of (line_text line) ≡ Some line
unfolding line_of
line_again (By pass act) is =
    rw (
      differs (line_text (By pass act)) (codes "finish") (not_finish pass.0 (act_text act)),
      cut_again 32 (pass.0 ∷ []) (act_text act) (Lacks-cons 32 pass.0 [] (no_space pass.0 is.0) (λ i lt. absurd (omega arith))),
      pass_again pass is.0,
      act_again act is.1,
    ) refl
line_again Finish is = refl

pub record IsWritten (text : List ℕ) (line : Line) : Type 0 where
  pub written : text ≡ line_text line
  pub is : IsLine line

IsWritten-at : (text : List ℕ) (k l : Line) → Some k ≡ Some l → IsWritten text k → IsWritten text l
IsWritten-at text k l e w = subst (λ (m : Line). IsWritten text m) (same_Some k l e) w

abbrev line_in : List ℕ × List ℕ → Option Line
line_in parts = option_and_then (λ pass. option_map (λ act. By pass act) (act_of parts.1)) (pass_of parts.0)

by_found : (name words : List ℕ) (line : Line) → line_in (name, words) ≡ Some line → IsWritten (name ++ 32 ∷ words) line
by_found name words line e = go (pass_of name) refl (act_of words) refl e
  where
    go : (p : Option PassName) → pass_of name ≡ p → (a : Option Act) → act_of words ≡ a → option_and_then (λ pass. option_map (λ act. By pass act) a) p ≡ Some line → IsWritten (name ++ 32 ∷ words) line
    go (Some pass) is-pass (Some act) is-act found =
        let p = pass_found name pass is-pass in
        let a = act_found words act is-act in
        let w : IsWritten (name ++ 32 ∷ words) (By pass act) = record { written = rw (p.0, a.written) refl; is = (p.1, a.is) } in
        IsWritten-at (name ++ 32 ∷ words) (By pass act) line found w
    go (Some pass) is-pass None is-act found = absurd cc
    go None is-pass a is-act found = absurd cc

pub line_found : (text : List ℕ) (line : Line) → line_of text ≡ Some line → IsWritten text line
unfolding line_of
line_found text line e = go (bytes_eq text (codes "finish")) refl (word_and_rest text) refl e
  where
    go : (b : Bool) → bytes_eq text (codes "finish") ≡ b → (o : Option (List ℕ × List ℕ)) → word_and_rest text ≡ o → cond b (Some Finish) (option_and_then line_in o) ≡ Some line → IsWritten text line
    go true is o cut found = IsWritten-at text Finish line found (record { written = same_text text (codes "finish") is; is = tt })
    go false is None cut found = absurd cc
    go false is (Some parts) cut found =
        subst (λ (t : List ℕ). IsWritten t line) (sym (cut_found 32 text parts.0 parts.1 cut).parts) (by_found parts.0 parts.1 line found)
