-- What a tagged word says: four fields, and the number that stands for them.
use Rattle.std.specs.Prelude.{ℕ, Bool, true, ◌+◌, ◌*◌, ◌/◌, ◌%◌, ◌^◌, ◌==◌, ◌≤◌, if◌then◌else◌}
use Rattle.tagged_index.specs.declared.word.Fields as Word
use Rattle.tagged_index.specs.declared.word.TheConstants.{INDEX_BITS, MARK_UNIT, SECOND_UNIT, TAG_UNIT, NULL, MAX_TAG}

-- index, mark, second (the second mark), tag
abbrev pub Fields : Type 0
Fields = Word.Fields

-- the fields that a word has room for
pub record IsInRange (f : Fields) : Type 0 where
  pub index : f.index ≤ NULL
  pub tag : f.tag ≤ MAX_TAG

abbrev pub bit : Bool → ℕ
bit b = if b then 1 else 0

-- the number of a word is a sum, each field times its unit
abbrev pub number : Fields → ℕ
number f = f.index + MARK_UNIT * bit f.mark + SECOND_UNIT * bit f.second + TAG_UNIT * f.tag

-- the fields of any number, by its binary digits

abbrev pub index_of : ℕ → ℕ
index_of w = w % 2 ^ INDEX_BITS

abbrev pub mark_of : ℕ → Bool
mark_of w = w / MARK_UNIT % 2 == 1

abbrev pub second_of : ℕ → Bool
second_of w = w / SECOND_UNIT % 2 == 1

abbrev pub tag_of : ℕ → ℕ
tag_of w = w / TAG_UNIT

abbrev pub fields_of : ℕ → Fields
fields_of w = record { index = index_of w; mark = mark_of w; second = second_of w; tag = tag_of w }

-- a new index; the tag and both marks stay
abbrev pub kept : Fields → ℕ → Fields
kept f i = record f { index = i }

-- a new index and the next tag; both marks stay
abbrev pub raised : Fields → ℕ → Fields
raised f i = record f { index = i; tag = f.tag + 1 }

abbrev pub marked : Fields → Fields
marked f = record f { mark = true }

abbrev pub with_second : Fields → Fields
with_second f = record f { second = true }
