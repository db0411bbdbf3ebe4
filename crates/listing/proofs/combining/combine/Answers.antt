use mathlib.Core.Path.{◌≡◌, refl, sym, ap}
use mathlib.Core.List.{append-nil}
use Rattle.std.proofs.Common.{rules}
use native.Mathlib.Omega.{arith}
use lib.ListN.{length, length-append}
use Rattle.actions.specs.Sets.{in_set}
use Rattle.listing.proofs.Writing.{writing_lost, writing_next, writing_ends}
use Rattle.listing.proofs.Combined.{begun, combine_lost, combine_made}
use Rattle.listing.proofs.combining.combine.Goals as goal

pub returns-in_err-put_outside : goal.returns-in_err-put_outside
returns-in_err-put_outside c = let b = c.split_at_mut-both.ensures in let s = c.split_at.ensures in
    let e : c.in_err-put_outside.numbers-1-own.given.0 ≡ c.put_outside.new.self.numbers.now = search (rules, (c.in_err-put_outside.ensures (in_set c.args.mask) (λ a b h p. search rules)).same_array) in
    rw c.from_residual.ensures (rw e (combine_lost _ _ _ _ _ _ _ _ (omega arith) c.requires b.front b.back s.front s.back (writing_lost (begun _ _ _ _) _ refl (c.in_err-put_outside.ensures (in_set c.args.mask) (λ a b h p. search rules)).wrote)))

pub returns-in_err-put_outside-2 : goal.returns-in_err-put_outside-2
returns-in_err-put_outside-2 c = let b = c.split_at_mut-both.ensures in let s = c.split_at.ensures in
    let e : c.in_err-put_outside-2.numbers-in-Break-branch-2-1-own.given.0 ≡ c.put_outside-2.new.self.numbers.now = search (rules, (c.in_ok-put_outside.ensures (in_set c.args.mask) (λ a b h p. search rules)).same_array, (c.in_err-put_outside-2.ensures (in_set c.args.mask) (λ a b h p. search rules)).same_array) in
    rw c.from_residual-in_err-put_outside-2.ensures (rw e (combine_lost _ _ _ _ _ _ _ _ (omega arith) c.requires b.front b.back s.front s.back (writing_lost (writing_next (begun _ _ _ _) refl (c.in_ok-put_outside.ensures (in_set c.args.mask) (λ a b h p. search rules)).wrote) _ refl (c.in_err-put_outside-2.ensures (in_set c.args.mask) (λ a b h p. search rules)).wrote)))

pub returns-in_err-put_pairs : goal.returns-in_err-put_pairs
returns-in_err-put_pairs c = let b = c.split_at_mut-both.ensures in let s = c.split_at.ensures in
    let e : c.in_err-put_pairs.numbers-in-Break-branch-3-1-own.given.0 ≡ c.put_pairs.new.self.numbers.now = search (rules, (c.in_ok-put_outside.ensures (in_set c.args.mask) (λ a b h p. search rules)).same_array, (c.in_ok-put_outside-2.ensures (in_set c.args.mask) (λ a b h p. search rules)).same_array, c.in_err-put_pairs.ensures.same_array) in
    rw c.from_residual-in_err-put_pairs.ensures (rw e (combine_lost _ _ _ _ _ _ _ _ (omega arith) c.requires b.front b.back s.front s.back (writing_lost (writing_next (writing_next (begun _ _ _ _) refl (c.in_ok-put_outside.ensures (in_set c.args.mask) (λ a b h p. search rules)).wrote) refl (c.in_ok-put_outside-2.ensures (in_set c.args.mask) (λ a b h p. search rules)).wrote) _ (sym (append-nil _)) c.in_err-put_pairs.ensures.wrote)))

pub overflow_add-b-2 : goal.overflow_add-b-2
overflow_add-b-2 c = omega (arith, (c.in_ok-put_outside.ensures (in_set c.args.mask) (λ a b h p. search rules)).wrote.same_length, (c.in_ok-put_outside-2.ensures (in_set c.args.mask) (λ a b h p. search rules)).wrote.same_length, c.in_ok-put_pairs.ensures.wrote.same_length, c.in_ok-put_pairs.ensures.wrote.written.inside, c.split_at_mut-both.ensures.back_len, c.split_at_mut-both.ensures.front_len, c.requires)

pub shift-requires : goal.shift-requires
shift-requires c =
    let e : c.numbers-2-1.given.0 ≡ c.put_pairs.new.self.numbers.now = search (rules, (c.in_ok-put_outside.ensures (in_set c.args.mask) (λ a b h p. search rules)).same_array, (c.in_ok-put_outside-2.ensures (in_set c.args.mask) (λ a b h p. search rules)).same_array, c.in_ok-put_pairs.ensures.same_array) in
    (omega arith, omega (arith, (c.in_ok-put_outside.ensures (in_set c.args.mask) (λ a b h p. search rules)).wrote.same_length, (c.in_ok-put_outside-2.ensures (in_set c.args.mask) (λ a b h p. search rules)).wrote.same_length, c.in_ok-put_pairs.ensures.wrote.same_length, c.in_ok-put_pairs.ensures.wrote.written.inside, c.split_at_mut-both.ensures.back_len, c.split_at_mut-both.ensures.front_len, ap length e, length-append c.split_at_mut-both.result.0.now c.numbers-2-1.given.0))

pub returns : goal.returns
returns c = let b = c.split_at_mut-both.ensures in let s = c.split_at.ensures in
    let e : c.numbers-2-1.given.0 ≡ c.put_pairs.new.self.numbers.now = search (rules, (c.in_ok-put_outside.ensures (in_set c.args.mask) (λ a b h p. search rules)).same_array, (c.in_ok-put_outside-2.ensures (in_set c.args.mask) (λ a b h p. search rules)).same_array, c.in_ok-put_pairs.ensures.same_array) in
    combine_made _ _ _ _ _ _ _ _ (omega arith) c.requires b.front b.back s.front s.back {y = c.numbers-2-1.given.0} (rw e (writing_ends (writing_next (writing_next (writing_next (begun _ _ _ _) refl (c.in_ok-put_outside.ensures (in_set c.args.mask) (λ a b h p. search rules)).wrote) refl (c.in_ok-put_outside-2.ensures (in_set c.args.mask) (λ a b h p. search rules)).wrote) (sym (append-nil _)) c.in_ok-put_pairs.ensures.wrote) refl)) c.shift.ensures.0 c.shift.ensures.1
