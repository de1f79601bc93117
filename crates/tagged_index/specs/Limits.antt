-- What a container is made with, as contracts see it.
use Rattle.std.specs.Prelude.{ℕ}
use Rattle.tagged_index.specs.declared.limit.Limits.{Limits}

abbrev pub capacity_of : Limits → ℕ
capacity_of l = l.capacity

abbrev pub tag_limit_of : Limits → ℕ
tag_limit_of l = l.tag_limit

abbrev pub passes_of : Limits → ℕ
passes_of l = l.passes
