-- The numbers of the definitions are those of the documents' table. Assumes nothing.
use mathlib.Core.Path.{refl}
use Rattle.reply.specs.Table.{ReplyTable}

pub reply-table : ReplyTable
reply-table =
    record {
      answered = refl;
      size = refl;
      base = refl;
      short = refl;
      unequal = refl;
      loop = refl;
      unknown = refl;
      glues = refl;
      twice = refl;
      range = refl;
      null = refl;
      stranger = refl;
      many = refl;
      rank = refl;
      deck = refl;
      dilute = refl;
      ambient = refl;
      potential = refl;
      bare = refl;
      weight = refl;
      ring = refl;
      stars = refl;
      job = refl;
      none = refl;
    }
