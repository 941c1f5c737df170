use Rattle.jobs.specs.declared.job.Job.{Job}
use Rattle.jobs.specs.inner.Settled.{stretch_in}
use Rattle.jobs.proofs.Stretches.{filled_none, within, filled_more, filled-done}
use Rattle.std.specs.Prelude.{Option}
use lib.ListN.{length, take, drop, length-take, length-drop}
use native.Mathlib.Omega.{arith}
use Prim.Native.Nat.{ℕ, ◌+◌, ◌-◌, ◌*◌}
use mathlib.Core.Path.{◌≡◌, ap, ◌∙◌}
use Rattle.jobs.proofs.fill.fill_stretches.Goals as goal

pub loop-k-init : goal.loop-k-init
loop-k-init c = filled_none c.args.configuration.now c.args.jobs.now c.args.stretches.now

pub overflow_mul-start : goal.overflow_mul-start
overflow_mul-start c =
    let a = c.args in
    let p = c.requires in
    let fits = within a.configuration.now a.jobs.now a.stretches.now c.loop-k.k c.loop-k.invariant c.loop-k-test.true p.jobs_len_bound p.configuration_len_bound p.stretches_len in
    omega (arith, fits.0, fits.1)

pub overflow_add-end : goal.overflow_add-end
overflow_add-end c =
    let a = c.args in
    let p = c.requires in
    let fits = within a.configuration.now a.jobs.now a.stretches.now c.loop-k.k c.loop-k.invariant c.loop-k-test.true p.jobs_len_bound p.configuration_len_bound p.stretches_len in
    omega (arith, fits.0, fits.1)

pub slice_bounds-fill_stretch-count : goal.slice_bounds-fill_stretch-count
slice_bounds-fill_stretch-count c = omega arith

pub slice_bounds-fill_stretch-end : goal.slice_bounds-fill_stretch-end
slice_bounds-fill_stretch-end c =
    let a = c.args in
    let p = c.requires in
    let fits = within a.configuration.now a.jobs.now a.stretches.now c.loop-k.k c.loop-k.invariant c.loop-k-test.true p.jobs_len_bound p.configuration_len_bound p.stretches_len in
    omega (arith, fits.0, fits.1)

pub fill_stretch-requires : goal.fill_stretch-requires
fill_stretch-requires c =
    let a = c.args in
    let p = c.requires in
    let fits = within a.configuration.now a.jobs.now a.stretches.now c.loop-k.k c.loop-k.invariant c.loop-k-test.true p.jobs_len_bound p.configuration_len_bound p.stretches_len in
    simp (length-take, length-drop) (omega (arith, fits.0))

pub loop-k-preserved : goal.loop-k-preserved
loop-k-preserved c =
    let a = c.args in
    let p = c.requires in
    let fits = within a.configuration.now a.jobs.now a.stretches.now c.loop-k.k c.loop-k.invariant c.loop-k-test.true p.jobs_len_bound p.configuration_len_bound p.stretches_len in
    let n = length a.configuration.now in
    let at = c.loop-k.k * n in
    let st = c.loop-k.stretches in
    let last = c.fill_stretch.new.stretch in
    let width : at + n - at ≡ n = omega arith in
    let lent : length (take (at + n - at) (drop at st)) ≡ n = simp (length-take, length-drop) (omega (arith, fits.0)) in
    let kept : length last ≡ length (take (at + n - at) (drop at st)) = c.fill_stretch.auto.stretch in
    let is : last ≡ stretch_in a.configuration.now c.read.result (take (at + n - at) (drop at st)) = c.fill_stretch.ensures in
    let filled : last ≡ stretch_in a.configuration.now c.read.result (take n (drop at st)) = is ∙ ap (λ (w : ℕ). stretch_in a.configuration.now c.read.result (take w (drop at st))) width in
    rw width (filled_more a.configuration.now a.jobs.now a.stretches.now c.loop-k.k c.loop-k.invariant c.loop-k-test.true p.stretches_len (kept ∙ lent) (filled ∙ ap (λ (j : Option Job). stretch_in a.configuration.now j (take n (drop at st))) c.read.ensures))

pub returns : goal.returns
returns c =
    let all : c.loop-k.k ≡ length c.args.jobs.now = omega arith in
    filled-done c.args.configuration.now c.args.jobs.now c.args.stretches.now c.loop-k.k c.loop-k.invariant all c.requires.stretches_len
