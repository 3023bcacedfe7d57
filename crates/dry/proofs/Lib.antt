pub mod DryFacts
