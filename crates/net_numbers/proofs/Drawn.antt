-- What a lawful drawing tells the net numbers: each wire end and pad has its joint row, and the tables of their numbers lead to the numbers of the sheet.
use mathlib.Core.List.Memᴰ.{append_left as ∈-left}
use native.Mathlib.Omega.{arith}
use lib.ListN.{length-take}
use mathlib.Core.List.{List, map}
use mathlib.Core.Path.{◌≡◌, ap, subst, ◌∙◌}
use Rattle.lists.specs.Lists.{◌∈◌}
use Rattle.std.specs.List.{filter}
use Rattle.lists.proofs.Lists.{keep_old}
use Rattle.lists.proofs.Tables.{holds_list, holds_count}
use Rattle.symbol.specs.declared.Point.{Point}
use Rattle.sheet.specs.Tables.{Components}
use Rattle.sheet.specs.declared.Joint.{Joint}
use Rattle.sheet.specs.declared.Drawing.{Drawing}
use Rattle.sheet.specs.Geometry.{ends}
use Rattle.sheet.specs.Parts.{pads_of}
use Rattle.sheet.specs.Drawings.{Sheet, marks_of, wire_rows, component_rows, joint_rows, lists_of}
use Rattle.sheet.specs.Rules.{Lawful}
use Rattle.sheet.proofs.Rules.{lawful_joints}
use Rattle.wires.specs.Points.{Points}
use Rattle.wires.specs.Tables.{point_rows}
use Rattle.parts.specs.Tables.{PartsFit, TabledParts, TabledPoints}
use Rattle.nets.specs.Joined.{Links}
use Rattle.nets.specs.Joined.{Pads}
use Rattle.nets.specs.Numbers.{by_number, numbers_of}
use Rattle.nets.specs.Tables.{net_in, pad_rows}
use Rattle.net_numbers.specs.Netted.{is_power, net_on, number_of_joint, net_numbers}
use Rattle.net_numbers.specs.Found.{Jointed, LinksIn, PadsIn}
use Rattle.net_numbers.proofs.Numbered.{pad_marked, power_pad}

module _ {d : Drawing} (l : Lawful d) where
  abbrev sheet : Sheet
  sheet = lists_of d

  jointed : {ps : List Point} → ((p : Point) → p ∈ ps → p ∈ marks_of sheet) → Jointed ps (joint_rows d.joints)
  jointed marked = record { room = omega (arith, l.rule1.joint_room, length-take d.joints.count d.joints.rows); rising = l.rule7.joints_rise; all = λ p m. l.rule6.all p (marked p m) }

  pub ends_jointed : Jointed (ends (wire_rows d.wires)) (joint_rows d.joints)
  ends_jointed = jointed (λ p m. ∈-left _ m)

  pub parts_fit : PartsFit d.components
  parts_fit = record { room = l.rule1.component_room; each = l.rule1.components_fit }

  pub pads_jointed : {ps : Points} → TabledPoints (pads_of (component_rows d.components)) ps → Jointed (point_rows ps) (joint_rows d.joints)
  pads_jointed t = jointed (λ p m. pad_marked sheet p (subst (λ ps. p ∈ ps) t.points_are m))

  -- the power symbols alone
  module _ {t : Components} (h : TabledParts (filter is_power (component_rows d.components)) t) where
    pub powers_fit : PartsFit t
    powers_fit = record { room = holds_count h; each = λ c m. l.rule1.components_fit c (keep_old is_power (component_rows d.components) (subst (λ cs. c ∈ cs) (holds_list h) m)) }

    powers_are : {ps : Points} → TabledPoints (pads_of (component_rows t)) ps → point_rows ps ≡ pads_of (filter is_power (component_rows d.components))
    powers_are r = r.points_are ∙ ap pads_of (holds_list h)

    pub powers_jointed : {ps : Points} → TabledPoints (pads_of (component_rows t)) ps → Jointed (point_rows ps) (joint_rows d.joints)
    powers_jointed r = jointed (λ p m. pad_marked sheet p (power_pad sheet p (subst (λ ps. p ∈ ps) (powers_are r) m)))

    -- the numbers that the tables lead to
    pub numbers_drawn : {fed all : Points} {wires : Links} {powers pads : Pads} → TabledPoints (pads_of (component_rows t)) fed → TabledPoints (pads_of (component_rows d.components)) all
        → LinksIn (joint_rows d.joints) (wire_rows d.wires) wires → PadsIn (joint_rows d.joints) (point_rows fed) powers → PadsIn (joint_rows d.joints) (point_rows all) pads
        → numbers_of (net_in wires powers) (pad_rows pads) ≡ net_numbers sheet
    unfolding net_numbers
    numbers_drawn {fed} {all} {wires} {powers} {pads} f a ws ps qs =
        let js : List Joint = joint_rows d.joints in
        let us : pad_rows powers ≡ map (number_of_joint js) (pads_of (filter is_power sheet.parts)) = ps.pads_are ∙ ap (map (number_of_joint js)) (powers_are f) in
        let vs : pad_rows pads ≡ map (number_of_joint js) (pads_of sheet.parts) = qs.pads_are ∙ ap (map (number_of_joint js)) a.points_are in
        (λ i. numbers_of (record { links = ws.links_are i; powers = us i }) (vs i))
        ∙ ap (λ (is : List Joint). numbers_of (by_number (number_of_joint is) (net_on sheet)) (map (number_of_joint is) (pads_of sheet.parts))) (lawful_joints l)
