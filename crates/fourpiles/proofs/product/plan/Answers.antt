use Rattle.std.proofs.Common.{subst, rules}
use Rattle.fourpiles.specs.Product.{Sides}
use Rattle.fourpiles.proofs.product.plan.Goals as goal

pub returns : goal.returns
returns g c =
    let ss = (g.S.Store.meaning c.args.s.now).shapes in
    let left = c.in_ok-rows.ensures in
    let right = c.in_ok-height.ensures in
    let result = c.in_ok-tall.ensures in
    record {
      left = left;
      right = subst (λ n. Sides ss c.args.b n c.in_ok-height.columns) c.if-height-inner.false right;
      result = subst (λ n. Sides ss c.args.c n c.in_ok-height.columns) c.if-tall-rows.false
          (subst (λ n. Sides ss c.args.c c.in_ok-tall.tall n) c.if-wide-columns.false result);
      not_left = search rules;
      not_right = search rules;
    }
