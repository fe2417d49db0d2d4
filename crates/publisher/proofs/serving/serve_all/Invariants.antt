use Rattle.std.proofs.Common.{◌+◌, ◌≤◌}
use Rattle.registry.specs.History.{state_of}
use Rattle.publisher.specs.Serving.{dues}
use Rattle.publisher.specs.Going.{Going}
use Rattle.publisher.proofs.serving.serve_all.Given as goal

abbrev pub invariant-loop : goal.invariant-loop
invariant-loop g l =
    let shelf = g.H.Shelf in
    Going l.fn.registry l.registry l.fn.standings l.standings (shelf.told l.fn.shelf) (shelf.told l.shelf) (shelf.moment l.fn.shelf) (shelf.moment l.shelf) (shelf.images l.shelf)
    (shelf.faults l.fn.shelf) (shelf.faults l.shelf) l.served.items × (dues (state_of l.registry) + l.counter ≤ l.end)
