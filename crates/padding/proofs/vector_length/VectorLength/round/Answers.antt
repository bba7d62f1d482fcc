use Rattle.padding.specs.Rounded.{round_least, least_same}
use Rattle.padding.proofs.vector_length.VectorLength.round.Goals as goal

pub returns-clause-value : goal.returns-clause-value
returns-clause-value c =
    let m = c.args.self.count in let n = c.next_multiple_of.ensures in
    least_same m c.args.extent _ _ (record { multiple = n.multiple; above = n.lower_bound; near = n.upper_bound }) (round_least m c.args.extent c.args.self.low)
