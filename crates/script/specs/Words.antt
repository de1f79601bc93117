-- What the words of a script are read as.
use Rattle.std.specs.Prelude.{ℕ, ◌^◌, Bool, ◌&&◌, List, [], ◌∷◌, length, nat_lt, nat_le, ◌==◌, if◌then◌else◌, Option, Some, None, option_map, filter_map, codes, ◌++◌}
use Rattle.std.specs.List.{list_all, slice_split, flat_map}
use Rattle.std.specs.Char.{is_ascii_alphanumeric}
use Rattle.std.specs.Str.{bytes_eq}
use Rattle.std.specs.Str.Parse.{digits_value}
use Rattle.std.specs.Fmt.{decimal}
use denote.Ref.{Bor}
use Rattle.script.specs.declared.value.TheConstants.{MAX_VALUE_LEN}

-- ---- values

-- whether a word spells a value
abbrev pub is_value : List ℕ → Bool
is_value word = (nat_le 1 (length word) && nat_le (length word) MAX_VALUE_LEN) && list_all is_ascii_alphanumeric word

abbrev pub value_of : List ℕ → Option (List ℕ)
value_of word = if is_value word then Some word else None

-- what stands between the spaces of a text
abbrev pub words : List ℕ → List (List ℕ)
words text = slice_split (λ byte. byte == 32) text

abbrev pub values_of : List ℕ → Option (List (List ℕ))
values_of text = if list_all is_value (words text) then Some (words text) else None

-- the words of a text that may be missing
abbrev pub words_in : Option (Bor (List ℕ)) → List (List ℕ)
words_in None = []
words_in (Some text) = words text.now

-- the values that are left in these places
abbrev pub values_in : List (Option (List ℕ)) → List (List ℕ)
values_in places = filter_map (λ place. place) places

-- a space before each of these words
abbrev pub spaced : List (List ℕ) → List ℕ
spaced words = flat_map (λ word. codes " " ++ word) words

-- the number below 2^64 that a word spells, in the digits that it is written with
unfoldable pub number_of : List ℕ → Option ℕ
number_of word = if nat_lt (digits_value 10 word) (2 ^ 64) && bytes_eq (decimal (digits_value 10 word)) word then Some (digits_value 10 word) else None

-- the bytes before the first `byte`, and the bytes after it
abbrev pub cut_at : ℕ → List ℕ → Option (List ℕ × List ℕ)
cut_at byte [] = None
cut_at byte (b ∷ bs) = if b == byte then Some ([], bs) else option_map (λ parts. (b ∷ parts.0, parts.1)) (cut_at byte bs)

-- the first word, and the text after the space that follows it
abbrev pub word_and_rest : List ℕ → Option (List ℕ × List ℕ)
word_and_rest text = cut_at 32 text
