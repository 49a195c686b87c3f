use Rattle.std.proofs.Common.{◌≡◌, refl, ap, ◌∙◌, length, ◌++◌, List, ℕ, ◌∷◌, [], arith}
use Rattle.std.proofs.Math.ListN.{set}
use Rattle.number_graphs.specs.declared.paths.Found.TheVariants.{OnPath}
use Rattle.number_graphs.specs.declared.paths.Group.{Group}
use Rattle.number_graphs.specs.Searching.{group_at}
use Rattle.number_graphs.proofs.Groups.{next_read}
use Rattle.number_graphs.proofs.paths.Search.enter.Goals as goal

pub returns : goal.returns
returns c =
    let place : c.len-place.result ≡ length c.args.self.now.members.items = omega (arith, c.len-place.ensures, c.args.self.now.members.ok.0) in
    let pending : c.len.result ≡ length c.args.self.now.pending.items = omega (arith, c.len.ensures, c.args.self.now.pending.ok.0) in
    record {
      found = ap (λ (place : ℕ). set c.args.self.now.found.items c.args.number (OnPath place)) place;
      members = c.in_ok-push-2.ensures.items;
      pending = c.in_ok-extend_from_slice.ensures.items ∙ ap (λ (l : List ℕ). c.args.self.now.pending.items ++ l) (c.deref.ensures.value ∙ next_read c.args.next.now c.args.number c.index-next-number.result c.index-next-number.is (omega arith));
      groups = c.in_ok-push.ensures.items ∙ ap (λ (g : Group). c.args.self.now.groups.items ++ g ∷ []) (ap (λ (n : ℕ). group_at n c.len.result) place ∙ ap (λ (n : ℕ). group_at (length c.args.self.now.members.items) n) pending);
      firsts = refl;
    }
