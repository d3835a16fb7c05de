-- Chains join points as one relation would that goes both ways and on: so does being on one net.
use mathlib.Core.List.{List}
use Rattle.lists.specs.Lists.{◌∈◌}
use Rattle.nets.specs.Nets.{Net, Linked, forth, back, Chain, here, on, Fed, OneNet, by_chain, both_fed}

module _ {P : Type 0} where
  abbrev pub net_with : List P → List (P × P) → Net P
  net_with powers links = record { links = links; powers = powers }

  linked_back : {links : List (P × P)} {p q : P} → Linked links p q → Linked links q p
  linked_back (forth m) = back m
  linked_back (back m) = forth m

  module _ {links : List (P × P)} where
    pub chain_then : {p q r : P} → Chain links p q → Chain links q r → Chain links p r
    chain_then here d = d
    chain_then (on l c) d = on l (chain_then c d)

    pub chain_back : {p q : P} → Chain links p q → Chain links q p
    chain_back here = here
    chain_back (on l c) = chain_then (chain_back c) (on (linked_back l) here)

  module _ {net : Net P} where
    pub fed_along : {p q : P} → Chain net.links p q → Fed net q → Fed net p
    fed_along c f = record { power = f.power; placed = f.placed; chain = chain_then c f.chain }

    pub net_back : {p q : P} → OneNet net p q → OneNet net q p
    net_back (by_chain c) = by_chain (chain_back c)
    net_back (both_fed f g) = both_fed g f

    pub net_then : {p q r : P} → OneNet net p q → OneNet net q r → OneNet net p r
    net_then (by_chain c) (by_chain d) = by_chain (chain_then c d)
    net_then (by_chain c) (both_fed f g) = both_fed (fed_along c f) g
    net_then (both_fed f g) (by_chain c) = both_fed f (fed_along (chain_back c) g)
    net_then (both_fed f g) (both_fed h k) = both_fed f k

    pub net_fed : {p q : P} → OneNet net p q → Fed net q → Fed net p
    net_fed (by_chain c) f = fed_along c f
    net_fed (both_fed f g) h = f

  -- more wires join more
  module _ {links links' : List (P × P)} (more : (l : P × P) → l ∈ links → l ∈ links') where
    linked_more : {p q : P} → Linked links p q → Linked links' p q
    linked_more {p} {q} (forth m) = forth (more (p, q) m)
    linked_more {p} {q} (back m) = back (more (q, p) m)

    pub chain_more : {p q : P} → Chain links p q → Chain links' p q
    chain_more here = here
    chain_more (on l c) = on (linked_more l) (chain_more c)

    pub fed_more : {powers : List P} {p : P} → Fed (net_with powers links) p → Fed (net_with powers links') p
    fed_more f = record { power = f.power; placed = f.placed; chain = chain_more f.chain }

    pub net_more : {powers : List P} {p q : P} → OneNet (net_with powers links) p q → OneNet (net_with powers links') p q
    net_more (by_chain c) = by_chain (chain_more c)
    net_more (both_fed f g) = both_fed (fed_more f) (fed_more g)
