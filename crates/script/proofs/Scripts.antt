-- Reading a script from its text.
use Rattle.std.proofs.Common.{◌≡◌, ◌⊎◌, inl, inr, ℕ, true, List, Option, Some, None, Ok, Err, refl, ap, ◌∙◌}
use Rattle.script.specs.declared.fault.ScriptFault.{ScriptFault}
use Rattle.script.specs.declared.fault.ScriptFault.TheVariants.{NoMemory, BadLine}
use Rattle.script.specs.declared.line.Line.{Line}
use Rattle.script.specs.Reading.{is_ended, split_lines, lines_from, numbered, head_of, with_head, with_lines, script_of}
use Rattle.script.specs.Words.{cut_at}
use Rattle.script.specs.Script.{Head}
use Rattle.script.proofs.Splitting.{split_cut, uncut_ended}

-- of no line
pub script-no_line : (text : List ℕ) → is_ended text ≡ true → cut_at 10 text ≡ None → script_of text ≡ Err (BadLine 1)
unfolding script_of
script-no_line text ended none = rw (uncut_ended text none ended) refl

-- of a first line and others
pub script-first : (text first rest : List ℕ) (head : Option Head) → is_ended text ≡ true → cut_at 10 text ≡ Some (first, rest) → head_of first ≡ head → script_of text ≡ with_head head (split_lines rest)
unfolding script_of
script-first text first rest head ended cut is = rw (ended, split_cut text first rest cut, is) refl

pub script-read : (text first rest : List ℕ) (head : Head) (lines : List Line) → is_ended text ≡ true → cut_at 10 text ≡ Some (first, rest) → head_of first ≡ Some head → numbered (lines_from head.order (split_lines rest)) ≡ Ok lines → script_of text ≡ Ok (head, lines)
script-read text first rest head lines ended cut is read = script-first text first rest (Some head) ended cut is ∙ ap (with_lines head) read

pub script-fault : (text first rest : List ℕ) (head : Head) (fault : ScriptFault) → is_ended text ≡ true → cut_at 10 text ≡ Some (first, rest) → head_of first ≡ Some head → (fault ≡ NoMemory) ⊎ (numbered (lines_from head.order (split_lines rest)) ≡ Err fault) → (fault ≡ NoMemory) ⊎ (script_of text ≡ Err fault)
script-fault text first rest head fault ended cut is (inl no_memory) = inl no_memory
script-fault text first rest head fault ended cut is (inr read) = inr (script-first text first rest (Some head) ended cut is ∙ ap (with_lines head) read)
