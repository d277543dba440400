pub mod Accepted
mod Again
mod BundleSize
mod Bundles
pub mod Descent
mod Fields
pub mod Inputs
pub mod JoinedValues
mod Laws
mod Left
mod Loop
mod Paths
mod RootInput
pub mod Soundness
mod StandardFacts
