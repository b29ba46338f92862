-- What is promised of orders, spans and kinds.
use Rattle.std.specs.Prelude.{◌≡◌, List, Ok, Result, Decides}
use Rattle.rows.specs.declared.kind.Kind.{Kind}
use Rattle.rows.specs.declared.kind.UnknownKind.{UnknownKind}
use Rattle.rows.specs.declared.row.Row.{Row}
use Rattle.rows.specs.declared.span.Span.{Span}
use Rattle.rows.specs.Rows.{Alike}
use Rattle.rows.specs.Kinds.{number_of_kind, IsKindFrom}
use Rattle.rows.specs.Spans.{overlap, ShareAKey}
use Rattle.rows.specs.Orders.{Order, done_to, touched}

-- the order in which rows stand means nothing to what an order does and touches
abbrev pub RowOrderMeansNothing : Type 0
RowOrderMeansNothing =
    (o : Order) (xs ys : List Row) → Alike xs ys → Alike (done_to o xs) (done_to o ys) × (touched o xs ≡ touched o ys)

abbrev pub OverlappingIsSharingAKey : Type 0
OverlappingIsSharingAKey = (a b : Span) → Decides (overlap a b) (ShareAKey a b)

-- a kind comes back from the number that stands for it
abbrev pub KindsComeBack : Type 0
KindsComeBack = (kind : Kind) (answer : Result Kind UnknownKind) → IsKindFrom (number_of_kind kind) answer → answer ≡ Ok kind
