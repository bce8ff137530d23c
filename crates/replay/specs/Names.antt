-- The names of what a record asks, as the replay prints them.
use Rattle.std.specs.Prelude.{ℕ, List, codes}
use Rattle.replay.specs.declared.Listing.TheVariants as listing
use Rattle.replay.specs.declared.Layout.TheVariants as layout
use Rattle.replay.specs.declared.Kind.{Kind}
use Rattle.replay.specs.declared.Kind.TheVariants as kind

abbrev pub name_of : Kind → List ℕ
name_of kind.Measure = codes "measure"
name_of (kind.List listing.Words) = codes "words"
name_of (kind.List listing.Apart) = codes "break_apart"
name_of (kind.List listing.Broken) = codes "break_words"
name_of (kind.Lay layout.FirstFit) = codes "first fit"
name_of (kind.Lay layout.LeastCost) = codes "least cost"
name_of kind.Fill = codes "fill"
name_of kind.Turn = codes "nothing"
