-- What a pass knows of its caller.
use Rattle.std.specs.Prelude.{◌≡◌, ◌≢◌, ℕ, ◌+◌, ◌-◌, ◌/◌, ◌%◌, ◌<◌, ◌≤◌, Bool, true, false, cond, ltb, bit_xor}
use Rattle.tagged_index.specs.Fields.{index_of, tag_of}
use Rattle.backoff.specs.declared.density.Density.{Density}
use Rattle.backoff.specs.declared.density.Known.{Known}
use Rattle.backoff.specs.declared.density.Sight.{Sight}
use Rattle.backoff.specs.declared.density.Sight.TheVariants.{Nothing, Failed, Left}
use Rattle.backoff.specs.declared.density.TheConstants.{MOST_EVIDENCE}

-- how much speaks for calls that follow one another closely
abbrev pub evidence_of : Density → ℕ
evidence_of d = d.number % 32

-- what is kept from one call to the next
abbrev pub sight_of : ℕ → Sight
sight_of n = cond (ltb n 65_536) Nothing (cond (ltb n 131_072) Failed (Left (n / 256 % 256)))

-- a density taken apart
abbrev pub known_of : Density → Known
known_of d = record { evidence = evidence_of d; failures = d.number / 32 % 8; sight = sight_of d.number }

-- whether a compare-and-swap of the call under way has failed
abbrev pub is_failed : Sight → Bool
is_failed Failed = true
is_failed sight = false

abbrev pub has_failed : Density → Bool
has_failed d = is_failed (sight_of d.number)

-- a hash of a word
abbrev pub hash_of : ℕ → ℕ
hash_of word = bit_xor (tag_of word) (index_of word) % 256

-- what a look at a word makes of the evidence: there is more if the word is as the last call left it, and less if not
abbrev pub Weighs : Sight → ℕ → ℕ → ℕ → Type 0
Weighs (Left hash) word before after = (hash ≡ hash_of word → before < MOST_EVIDENCE → after ≡ before + 1) × (hash ≡ hash_of word → MOST_EVIDENCE ≤ before → after ≡ MOST_EVIDENCE) × (hash ≢ hash_of word → after ≡ before - 4)
Weighs sight word before after = after ≡ before

abbrev pub IsLookedAt : Known → ℕ → Known → Type 0
IsLookedAt before word after = Weighs before.sight word before.evidence after.evidence × (after.failures ≡ before.failures) × (after.sight ≡ Nothing)

-- what a call with a failed compare-and-swap leaves: each fourth one keeps a hash of the word
abbrev pub HasFailed : Known → ℕ → Known → Type 0
HasFailed before word after = (after.evidence ≡ before.evidence) × (before.failures < 3 → (after.failures ≡ before.failures + 1) × (after.sight ≡ Nothing)) × (3 ≤ before.failures → (after.failures ≡ 0) × (after.sight ≡ Left (hash_of word)))

-- a call that is left under way keeps that a compare-and-swap of it has failed
abbrev pub IsUnderWay : Known → Known → Type 0
IsUnderWay before after = (after.evidence ≡ before.evidence) × (after.failures ≡ before.failures) × (after.sight ≡ Failed)
