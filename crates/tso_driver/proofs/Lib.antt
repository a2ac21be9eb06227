mod Leads
mod Driven
