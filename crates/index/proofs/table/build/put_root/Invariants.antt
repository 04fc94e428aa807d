use Rattle.std.proofs.Common.{◌≡◌, ◌+◌, ◌-◌, ◌*◌, ◌≤◌, ◌++◌, map, length}
use Rattle.std.specs.Iterator.Adapters.{enumerate_source, enumerate_count}
use Rattle.std.specs.Slice.Iter.{chunks_rest, chunks_size}
use Rattle.fixed_vec.specs.Items.{items}
use Rattle.index.specs.Nodes.{bounds}
use Rattle.index.specs.Search.{last}
use Rattle.index.specs.Shape.{numbered, rows}
use Rattle.index.proofs.table.build.put_root.Given as goal

abbrev pub invariant-loop-q : goal.invariant-loop-q
invariant-loop-q l =
    let q = enumerate_count l.q-iterator in
    let rest = chunks_rest (enumerate_source l.q-iterator) in
    record {
      can : (goal.iterator-loop-q).can_next l.q-iterator;
      finite : (goal.iterator-loop-q).is_finite l.q-iterator;
      size : chunks_size (enumerate_source l.q-iterator) ≡ 9;
      room : 9 * q + length rest ≤ 81;
      count : length (items l.node.entries) ≡ q;
      all : items l.node.entries ++ numbered (1 + q) (map last (rows (9 - q) (bounds rest))) ≡ numbered 1 (map last (rows 9 (bounds l.entries)));
    }
