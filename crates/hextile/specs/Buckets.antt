-- Buckets of values, by which different values are told apart.
use Rattle.std.specs.Prelude.{ℕ, ◌*◌, ◌/◌, ◌%◌, ◌^◌}

-- the bucket of a value, one of 1,024
unfoldable pub bucket_of : ℕ → ℕ
bucket_of value = value * 2654435769 % 2 ^ 32 / 2 ^ 22
