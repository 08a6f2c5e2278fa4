-- The free buffers, at most two, in the order of their indexes.
use Rattle.std.specs.Prelude.{Option, Some, None, if◌then◌else◌, nat_lt}
use Rattle.multibuf.specs.declared.owners.Free.{Free}
use Rattle.multibuf.specs.declared.stock.Stock.{Stock}

-- two free buffers
abbrev pub stock_of_two : Free → Free → Stock
stock_of_two f g =
    if nat_lt f.index g.index then record { low = Some f; high = Some g }
    else record { low = Some g; high = Some f }

-- a free buffer beside the first one, if there is one
abbrev pub stock_beside : Option Free → Free → Option Free → Stock
stock_beside None f high = record { low = Some f; high = high }
stock_beside (Some g) f high = stock_of_two f g

-- the free buffers with one more
abbrev pub with_free : Stock → Free → Stock
with_free s f = stock_beside s.low f s.high

-- the free buffers without the first one, if there is one
abbrev pub without_first : Option Free → Stock → Stock
without_first None s = s
without_first (Some f) s = record { low = s.high; high = None }

abbrev pub without_least : Stock → Stock
without_least s = without_first s.low s
