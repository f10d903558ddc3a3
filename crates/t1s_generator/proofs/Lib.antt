mod Words
mod Left
mod LineFields
mod ReadLines
mod Plans
mod SaidLines
mod Unbroken
mod SaidValues
mod Defaults
mod SaidNodes
mod FitPlans
pub mod GeneratedScripts
