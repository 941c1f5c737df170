-- The bench table's daggered lines, all of them, and what is added. Assumes nothing.
use Rattle.built.specs.Bench as Names
use Rattle.bench_table.specs.Table.{BenchTable, Added}
use Rattle.bench_table.proofs.Sequences as Sequences
use Rattle.bench_table.proofs.Designs as Designs
use Rattle.bench_table.proofs.Decks as Decks

pub bench-table : BenchTable
bench-table =
    record {
      a = Sequences.a;
      ac = Sequences.ac;
      aac-tag = Sequences.aac-tag;
      loop-of-2 = Sequences.loop-of-2;
      loop-of-3 = Sequences.loop-of-3;
      two-stars = Names.line-a-two-stars;
      no-position = Designs.no-position;
      one_state = Designs.one_state;
      bound = Designs.bound;
      tied = Designs.tied;
      later = Designs.later;
      rank-0 = Designs.rank-0;
      rank-2 = Designs.rank-2;
      rank-3 = Designs.rank-3;
      rank-4 = Designs.rank-4;
      written = Decks.written;
      fault = Decks.fault;
    }

pub added : Added
added = record { one-star = Names.line-a-one-star; retired = Names.line-strand-two-stars; reduced = Names.line-strand-two-stars-archive }
