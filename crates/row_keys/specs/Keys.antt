-- The order of keys.
use Rattle.std.specs.declared.cmp.Ordering.{Ordering}
use Rattle.std.specs.Ordering.{ordering_then}
use Rattle.row_keys.specs.declared.key.Key.{Key}
use Rattle.row_keys.specs.RowOrder.{bytes_cmp}

-- by row, then by family, then by qualifier, each by its bytes
abbrev pub key_cmp : Key → Key → Ordering
key_cmp a b = ordering_then (bytes_cmp a.row b.row) (ordering_then (bytes_cmp a.family b.family) (bytes_cmp a.qualifier b.qualifier))
