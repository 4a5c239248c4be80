use Rattle.std.proofs.Common.{refl, sym, subst, arith}
use Rattle.std.proofs.lemmas.Result.{err_from_is_err_and}
use Rattle.ground_store.specs.Drawing.{HasDrawn, IsDrawn}
use Rattle.new_files.proofs.DrawLemmas.{drawn_as}
use Rattle.new_files.proofs.PutActs.{draws_none, puts, puts_none}
use Rattle.new_files.proofs.putting.put_new_file.Goals as goal

pub returns-in_err-draw_name-clause-acts : goal.returns-in_err-draw_name-clause-acts
returns-in_err-draw_name-clause-acts g c =
    let drawn = subst (λ n. IsDrawn n.nodes c.in-Ok.plan.number) c.nodes.ensures c.in-Ok.ensures.number in
    let p = err_from_is_err_and c.from_residual-in_err-draw_name.result c.from_residual-in_err-draw_name.ensures.1 in
    rw (p.1, p.2) (draws_none g.H.Host.state (g.met.H.Host.sound c.args.ground.now.host) c.args.table.now c.args.dir.now c.args.kind c.args.cells.now c.in-Ok.plan.number drawn c.in_err-draw_name.ensures.acts)

pub returns-in_err-size-clause-acts : goal.returns-in_err-size-clause-acts
returns-in_err-size-clause-acts g c =
    let drawn = subst (λ n. IsDrawn n.nodes c.in-Ok.plan.number) c.nodes.ensures c.in-Ok.ensures.number in
    let p = err_from_is_err_and c.from_residual-in_err-size.result c.from_residual-in_err-size.ensures.1 in
    rw (p.1, p.2) (puts_none g.H.Host.state (g.met.H.Host.sound c.args.ground.now.host) c.args.table.now c.args.dir.now c.args.kind c.args.cells.now c.in-Ok.plan.number drawn c.in-Ok.plan.path c.in-Ok.ensures.path
    c.in_ok-draw_name.ensures.acts c.in_err-size.ensures.acts)

pub returns-clause-acts : goal.returns-clause-acts
returns-clause-acts g c =
    let drawn = subst (λ n. IsDrawn n.nodes c.in-Ok.plan.number) c.nodes.ensures c.in-Ok.ensures.number in
    let size = c.in_ok-size.ensures.size in
    puts g.H.Host.state (g.met.H.Host.sound c.args.ground.now.host) c.args.table.now c.args.dir.now c.args.kind c.args.cells.now c.in-Ok.plan.number drawn c.in-Ok.plan.path c.in-Ok.ensures.path
    c.in_ok-draw_name.ensures.acts (record { is = refl; cells_are = c.requires.cells; short = omega (arith, size) }) c.in_ok-size.ensures.acts

pub returns-clause-file : goal.returns-clause-file
returns-clause-file g c =
    let drawn = subst (λ n. IsDrawn n.nodes c.in-Ok.plan.number) c.nodes.ensures c.in-Ok.ensures.number in
    record {
      number = c.in-Ok.plan.number;
      drawn = subst (λ n. HasDrawn c.in-Ok.plan.number c.args.ground.now.nodes.nodes n.nodes) (sym c.in_ok-size.ensures.same.0)
          (drawn_as c.args.ground.now.nodes.nodes c.draw_name.new.self.nodes.nodes c.in-Ok.plan.number c.in_ok-draw_name.field-0 drawn c.in_ok-draw_name.ensures.drawn);
      path = c.in-Ok.ensures.path;
      size = c.in_ok-size.ensures.size;
    }
